use Rattle.std.proofs.Common.{◌≡◌, ◌-◌, ◌∙◌, ℕ, List, length, get_or, drop, sym, ap, refl, subst, arith}
use Rattle.rl_graph.specs.Graph.{edges_of}
use Rattle.rl_numbers.specs.Columns.{IsColumn}
use Rattle.rl_numbers.proofs.ColumnLaws.{at-front, low-column}
use Rattle.rl_numbers.proofs.columns.column.Goals as goal

pub before-requires-clause-size : goal.before-requires-clause-size
before-requires-clause-size c = ap length c.deref.ensures.value ∙ c.loop-place.invariant.column.size

pub before-requires-clause-low : goal.before-requires-clause-low
before-requires-clause-low c =
    let g = c.args.g.now in
    let word = drop c.loop-place.place c.args.word.now in
    let column = subst (IsColumn (edges_of g) g.states c.args.to word) (sym c.deref.ensures.value) c.loop-place.invariant.column in
    low-column (edges_of g) g.states c.args.to word c.deref.result.now column

pub loop-place-preserved : goal.loop-place-preserved
loop-place-preserved c =
    let g = c.args.g.now in
    let word = c.args.word.now in
    let j = c.loop-place.place - 1 in
    let col = subst (IsColumn (edges_of g) g.states c.args.to (drop c.loop-place.place word)) (sym c.deref.ensures.value) c.loop-place.invariant.column in
    record {
      within = omega (arith, c.loop-place.invariant.within);
      column = subst (λ (w : List ℕ). IsColumn (edges_of g) g.states c.args.to w c.in_ok-counts-2.counts.items)
          (sym (at-front word c.loop-place.place j (get_or word j 0) (omega (arith, c.loop-place-test.true)) (omega (arith, c.loop-place-test.true, c.loop-place.invariant.within)) refl))
          (c.in_ok-counts-2.ensures.longer c.args.to (drop c.loop-place.place word) col);
    }

pub before-requires-clause-letter_in : goal.before-requires-clause-letter_in
before-requires-clause-letter_in c = c.requires (c.loop-place.place - 1) 0 (omega (arith, c.loop-place-test.true, c.loop-place.invariant.within))

pub returns : goal.returns
returns c =
    let g = c.args.g.now in
    let none : c.loop-place.place ≡ 0 = omega (arith, c.loop-place-test.false) in
    subst (λ (k : ℕ). IsColumn (edges_of g) g.states c.args.to (drop k c.args.word.now) c.loop-place.counts.items) none c.loop-place.invariant.column
