use Rattle.std.proofs.Common.{◌∙◌, sym, ap, ap₂, subst}
use Rattle.rl_graph.specs.Paths.{IsPath}
use Rattle.rl_graph.proofs.TwinPaths.{path-counts}
use Rattle.rl_syntax.specs.Tree.{tree_of}
use Rattle.rl_pairs.specs.PairTable.{moves_in}
use Rattle.rl_why.specs.Shown.{shown, PartAt}
use Rattle.rl_why.specs.Readings.{TwinReading, AreTwinWays}
use Rattle.rl_why.specs.internal.Numbers.{numbers_in}
use Rattle.rl_why.proofs.ReadingLaws.{place-as, two-ways, twin-shown, twin-some}
use Rattle.rl_why.proofs.reading.twin_reading.Goals as goal

pub numbers_of-requires-clause-path : goal.numbers_of-requires-clause-path
numbers_of-requires-clause-path c =
    let g = c.args.g.now in
    let w = c.args.twin.now in (
      w.state,
      subst (λ p. IsPath (moves_in g) w.state w.state p c.as_slice-word.result.now) (sym c.as_slice.ensures)
          (subst (IsPath (moves_in g) w.state w.state w.first) (sym c.as_slice-word.ensures) c.requires.twin.one_way),
    )

pub numbers_of-requires-2-clause-path : goal.numbers_of-requires-2-clause-path
numbers_of-requires-2-clause-path c =
    let g = c.args.g.now in
    let w = c.args.twin.now in (
      w.state,
      subst (λ p. IsPath (moves_in g) w.state w.state p c.as_slice-word.result.now) (sym c.as_slice-2.ensures)
          (subst (IsPath (moves_in g) w.state w.state w.second) (sym c.as_slice-word.ensures) c.requires.twin.other_way),
    )

pub unreachable-requires : goal.unreachable-requires
unreachable-requires c =
    let g = c.args.g.now in
    let a = c.args.a.now in
    let t = tree_of c.args.tree.now in
    let s = c.requires.setting in
    let w = c.args.twin.now in
    let one = c.as_slice-3.ensures ∙ c.in_ok-first.ensures ∙ ap₂ (numbers_in a g w.state) c.as_slice-word.ensures c.as_slice.ensures in
    let other = c.as_slice-4.ensures ∙ c.in_ok-second.ensures ∙ ap₂ (numbers_in a g w.state) c.as_slice-word.ensures c.as_slice-2.ensures in
    let place = place-as t a g s w.word w.state w.state _ _ c.place_of_state-place.result c.requires.state_in (twin-some (moves_in g) w.state w.word w.first w.second c.requires.twin) c.requires.letters
    (path-counts (moves_in g) w.state w.state w.first w.word c.requires.twin.one_way) c.states.ensures.count (ap (λ p. p.state) c.pair.ensures) c.place_of_state-place.ensures in
    let two = two-ways t a g s w.state w.word w.first w.second c.args.text.now c.as_slice-3.result.now c.as_slice-4.result.now c.place_of_state-place.result c.last_of.result c.requires.state_in c.requires.twin c.requires.letters
    c.requires.text one other place c.last_of.ensures in
    (rw c.in-None.is at c.in_ok-found.ensures.none) two.first_long two.second_long two.first two.second

pub returns : goal.returns
returns c =
    let g = c.args.g.now in
    let a = c.args.a.now in
    let t = tree_of c.args.tree.now in
    let s = c.requires.setting in
    let w = c.args.twin.now in
    let one = c.as_slice-3.ensures ∙ c.in_ok-first.ensures ∙ ap₂ (numbers_in a g w.state) c.as_slice-word.ensures c.as_slice.ensures in
    let other = c.as_slice-4.ensures ∙ c.in_ok-second.ensures ∙ ap₂ (numbers_in a g w.state) c.as_slice-word.ensures c.as_slice-2.ensures in
    let place = place-as t a g s w.word w.state w.state _ _ c.place_of_state-place.result c.requires.state_in (twin-some (moves_in g) w.state w.word w.first w.second c.requires.twin) c.requires.letters
    (path-counts (moves_in g) w.state w.state w.first w.word c.requires.twin.one_way) c.states.ensures.count (ap (λ p. p.state) c.pair.ensures) c.place_of_state-place.ensures in
    let two = two-ways t a g s w.state w.word w.first w.second c.args.text.now c.as_slice-3.result.now c.as_slice-4.result.now c.place_of_state-place.result c.last_of.result c.requires.state_in c.requires.twin c.requires.letters
    c.requires.text one other place c.last_of.ensures in
    let first = rw c.in-Some.is at c.in_ok-found.ensures.first in
    let second = rw c.in-Some.is at c.in_ok-found.ensures.second in
    let reading : TwinReading = record { first = c.in_ok-first-in-Some.first; second = c.in_ok-second-in-Some.second; parts = c.parting-parts.result } in
    subst (λ x. AreTwinWays t c.args.sources.now.nodes c.args.text.now x reading) place
    (twin-shown t c.args.sources.now.nodes c.args.text.now c.as_slice-3.result.now c.as_slice-4.result.now c.place_of_state-place.result c.last_of.result c.in-Some.ways.first c.in-Some.ways.second reading two c.last_of.ensures first second
    (c.in_ok-first-in-Some.ensures ∙ ap (shown c.args.sources.now.nodes) c.as_slice-in-Some.ensures) (c.in_ok-second-in-Some.ensures ∙ ap (shown c.args.sources.now.nodes) c.as_slice-in-Some-2.ensures)
    (λ k h. c.parting-parts.ensures k (subst (λ l. PartAt k l c.as_slice-in-Some-4.result.now) (sym c.as_slice-in-Some-3.ensures) (subst (PartAt k c.in_ok-first-in-Some.first) (sym c.as_slice-in-Some-4.ensures) h))))
