use Rattle.std.proofs.Common.{ℕ, ◌≡◌, ◌+◌, ◌*◌, get_or, sym, ◌∙◌, ap, subst, arith}
use Rattle.rl_graph.specs.Paths.{Has}
use Rattle.rl_graph.proofs.Sums.{Has-get_or}
use Rattle.rl_degree.specs.internal.Rows.{field_of, search_state_of, outer_moves, IsMet}
use Rattle.rl_degree.proofs.RowLaws.{further-more, met-stays, first-more, each-place}
use Rattle.rl_degree.proofs.rows.SplitSearch.spread_from.Goals as goal

pub meet-requires-clause-moves : goal.meet-requires-clause-moves
meet-requires-clause-moves c =
    let d = field_of c.args.g.now c.args.table.now c.args.part in
    let y = get_or c.args.seconds.now c.loop-place.place 0 in
    let e : c.pair_of-next.result ≡ c.args.first * c.args.table.now.inner.states + y =
    c.pair_of-next.ensures ∙ ap (λ z. c.args.first * z + y) (c.from-count.ensures ∙ c.states.ensures.number) in
    subst (λ (z : ℕ). Has z (outer_moves d c.args.found.now c.args.letter)) (sym e)
    (c.requires.moves y (Has-get_or c.args.seconds.now c.loop-place.place 0 (omega arith)))

pub loop-place-preserved : goal.loop-place-preserved
loop-place-preserved c =
    let d = field_of c.args.g.now c.args.table.now c.args.part in
    let f = c.args.found.now in
    let image = c.args.image.now in
    let n = c.args.table.now.inner.states in
    let seconds = c.args.seconds.now in
    let old = search_state_of c.loop-place.self in
    let new = search_state_of c.meet.new.self in
    let o = c.in_ok-meet.ensures in
    let at = λ (j : ℕ). c.args.first * n + get_or seconds j 0 in
    let e : c.pair_of-next.result ≡ at c.loop-place.place =
    c.pair_of-next.ensures ∙ ap (λ z. c.args.first * z + get_or seconds c.loop-place.place 0) (c.from-count.ensures ∙ c.states.ensures.number) in
    record {
      further = further-more d f (search_state_of c.args.self.now) old new c.loop-place.invariant.further o.0;
      met = first-more (λ j. IsMet d image old (at j)) (λ j. IsMet d image new (at j)) c.loop-place.place (λ j. met-stays d f image (at j) old new o.0)
          (subst (IsMet d image new) e o.1) c.loop-place.invariant.met;
    }

pub returns : goal.returns
returns c =
    let d = field_of c.args.g.now c.args.table.now c.args.part in
    let s = search_state_of c.loop-place.self in
    (c.loop-place.invariant.further, each-place (λ y. IsMet d c.args.image.now s (c.args.first * c.args.table.now.inner.states + y)) c.args.seconds.now c.loop-place.place (omega arith) c.loop-place.invariant.met)
