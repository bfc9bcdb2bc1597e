use Rattle.std.proofs.Common.{ℕ, ◌+◌, ◌*◌, get_or, arith}
use Rattle.rl_graph.specs.Paths.{Has}
use Rattle.rl_graph.proofs.Sums.{Has-get_or}
use Rattle.rl_degree.specs.internal.Rows.{field_of, search_state_of, IsMet}
use Rattle.rl_degree.proofs.RowLaws.{further-more, met-stays, first-more, each-place}
use Rattle.rl_degree.proofs.rows.SplitSearch.spread.Goals as goal

pub spread_from-requires-clause-moves : goal.spread_from-requires-clause-moves
spread_from-requires-clause-moves c y =
    let firsts = c.args.firsts.now in
    c.requires.moves (get_or firsts c.loop-place.place 0) y (Has-get_or firsts c.loop-place.place 0 (omega arith))

pub loop-place-preserved : goal.loop-place-preserved
loop-place-preserved c =
    let d = field_of c.args.g.now c.args.table.now c.args.part in
    let f = c.args.found.now in
    let image = c.args.image.now in
    let n = c.args.table.now.inner.states in
    let old = search_state_of c.loop-place.self in
    let new = search_state_of c.spread_from.new.self in
    let o = c.in_ok-spread_from.ensures in
    let first = λ (i : ℕ). get_or c.args.firsts.now i 0 in
    record {
      further = further-more d f (search_state_of c.args.self.now) old new c.loop-place.invariant.further o.0;
      met = first-more (λ i. (y : ℕ) → Has y c.args.seconds.now → IsMet d image old (first i * n + y)) (λ i. (y : ℕ) → Has y c.args.seconds.now → IsMet d image new (first i * n + y)) c.loop-place.place
          (λ i met y h. met-stays d f image (first i * n + y) old new o.0 (met y h)) o.1 c.loop-place.invariant.met;
    }

pub returns : goal.returns
returns c =
    let d = field_of c.args.g.now c.args.table.now c.args.part in
    let s = search_state_of c.loop-place.self in
    let n = c.args.table.now.inner.states in (
      c.loop-place.invariant.further,
      λ x y hx hy. each-place (λ x. (y : ℕ) → Has y c.args.seconds.now → IsMet d c.args.image.now s (x * n + y)) c.args.firsts.now c.loop-place.place (omega arith) c.loop-place.invariant.met x hx y hy,
    )
