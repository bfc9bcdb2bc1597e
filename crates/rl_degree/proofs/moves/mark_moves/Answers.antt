use Rattle.std.proofs.Common.{ℕ, ◌≡◌, ◌+◌, List, [], length, get_or, sym, ap, ◌∙◌, subst, arith}
use Rattle.rl_graph.specs.Graph.{edges_of}
use Rattle.rl_graph.proofs.Sums.{Has-get_or}
use Rattle.rl_degree.specs.internal.Moves.{with_cell}
use Rattle.rl_degree.proofs.TableLaws.{IsMarkedUpTo, marked-more, marked-all}
use Rattle.rl_degree.proofs.moves.mark_moves.Goals as goal

pub set-requires-clause-place_in : goal.set-requires-clause-place_in
set-requires-clause-place_in c =
    let g = c.args.g.now in
    let row = edges_of g c.args.state c.args.letter in
    let e = ap (λ (r : List ℕ). get_or r c.loop-place.place 0) c.edges-targets.ensures.targets in
    let f = ap length c.edges-targets.ensures.targets in
    let m = c.loop-place.invariant.so_far in
    let has = c.edges-targets.ensures.whole.targets c.args.state c.args.letter (get_or row c.loop-place.place 0) (Has-get_or row c.loop-place.place 0 (omega arith)) in
    omega (arith, has, e, m.wide c.args.state [] (omega (arith, m.high)))

pub loop-place-preserved : goal.loop-place-preserved
loop-place-preserved c =
    let g = c.args.g.now in
    let f = ap length c.edges-targets.ensures.targets in
    let more = marked-more g c.args.letter c.args.state c.loop-place.place c.loop-place.table c.edges-targets.ensures.whole c.requires.state_in (omega arith) c.loop-place.invariant in
    let e : c.set.new.self ≡ with_cell c.loop-place.table c.args.state (get_or (edges_of g c.args.state c.args.letter) c.loop-place.place 0) =
    c.set.ensures ∙ ap (λ (r : List ℕ). with_cell c.loop-place.table c.args.state (get_or r c.loop-place.place 0)) c.edges-targets.ensures.targets in
    subst (IsMarkedUpTo g c.args.letter c.args.state (c.loop-place.place + 1)) (sym e) more

pub returns : goal.returns
returns c =
    let f = ap length c.edges-targets.ensures.targets in
    marked-all c.args.g.now c.args.letter c.args.state c.loop-place.place c.loop-place.table (omega arith) c.loop-place.invariant
