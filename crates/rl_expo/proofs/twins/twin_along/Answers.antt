use Rattle.std.proofs.Common.{length, arith, ap}
use Rattle.rl_graph.specs.Graph.{edges_of}
use Rattle.rl_graph.proofs.GraphLaws.{bounded-whole}
use Rattle.rl_expo.proofs.SplitLaws.{ahead, way-first, way-more, way-end, path-letters}
use Rattle.rl_expo.proofs.twins.twin_along.Goals as goal

pub loop-place-init : goal.loop-place-init
loop-place-init c =
    let g = c.args.g.now in
    rw c.edges-row.ensures.targets (way-first g c.args.fork c.new-twin.result c.push.new.self c.args.back.now.moves c.args.back.now.word c.states-states.ensures.whole c.requires.moves c.new-twin.ensures.state c.new-twin.ensures.word c.new-twin.ensures.first c.new-twin.ensures.second c.in_ok-push.ensures c.requires.back)

pub split_move-step-requires-clause-number_in : goal.split_move-step-requires-clause-number_in
split_move-step-requires-clause-number_in c =
    let g = c.args.g.now in
    let a = ahead (edges_of g) g.states g.letters c.args.fork.first c.args.fork.second c.loop-place.place c.loop-place.one c.loop-place.other c.args.back.now.moves c.args.back.now.word c.loop-place.twin (bounded-whole g c.states-states.ensures.whole) c.loop-place.invariant (omega (arith, ap length c.as_slice-letters.ensures)) in
    rw (c.as_slice-letters.ensures, c.as_slice-numbers.ensures) a.number_in

pub split_move-step-requires-clause-letter_in : goal.split_move-step-requires-clause-letter_in
split_move-step-requires-clause-letter_in c =
    let g = c.args.g.now in
    let a = ahead (edges_of g) g.states g.letters c.args.fork.first c.args.fork.second c.loop-place.place c.loop-place.one c.loop-place.other c.args.back.now.moves c.args.back.now.word c.loop-place.twin (bounded-whole g c.states-states.ensures.whole) c.loop-place.invariant (omega (arith, ap length c.as_slice-letters.ensures)) in
    rw c.as_slice-letters.ensures a.letter_in

pub bounds-numbers-place : goal.bounds-numbers-place
bounds-numbers-place c =
    let g = c.args.g.now in
    let a = ahead (edges_of g) g.states g.letters c.args.fork.first c.args.fork.second c.loop-place.place c.loop-place.one c.loop-place.other c.args.back.now.moves c.args.back.now.word c.loop-place.twin (bounded-whole g c.states-states.ensures.whole) c.loop-place.invariant (omega (arith, ap length c.as_slice-letters.ensures)) in
    rw c.as_slice-numbers.ensures a.number_there

pub loop-place-preserved : goal.loop-place-preserved
loop-place-preserved c =
    let g = c.args.g.now in
    way-more (edges_of g) g.states g.letters c.args.fork.first c.args.fork.second c.loop-place.place c.loop-place.one c.loop-place.other c.split_move-step.result.first c.split_move-step.result.second c.split_move-step.result.one c.split_move-step.result.other c.args.back.now.moves c.args.back.now.word c.loop-place.twin c.push-in-loop-place.new.self (bounded-whole g c.states-states.ensures.whole) c.loop-place.invariant (omega (arith, ap length c.as_slice-letters.ensures))
    (rw (c.as_slice-letters.ensures, c.as_slice-numbers.ensures) at c.split_move-step.ensures) (rw c.as_slice-letters.ensures at c.in_ok-push-2.ensures)

pub returns-clause-twin : goal.returns-clause-twin
returns-clause-twin c =
    let g = c.args.g.now in
    way-end (edges_of g) g.states c.args.fork.first c.args.fork.second c.loop-place.place c.loop-place.one c.loop-place.other c.args.back.now.moves c.args.back.now.word c.loop-place.twin c.requires.moves.order c.loop-place.invariant (omega (arith, ap length c.as_slice-letters.ensures))

pub returns-clause-state : goal.returns-clause-state
returns-clause-state c = c.loop-place.invariant.home

pub returns-clause-letters : goal.returns-clause-letters
returns-clause-letters c =
    let g = c.args.g.now in
    let t = c.loop-place.twin in
    path-letters (edges_of g) g.states g.letters c.loop-place.twin.state c.loop-place.one c.loop-place.twin.first c.loop-place.twin.word (bounded-whole g c.states-states.ensures.whole) c.loop-place.invariant.one_way
