use Rattle.std.proofs.Common.{eqb, sym, ◌∙◌}
use Rattle.std.specs.Cmp.Lexicographic.{pointwise}
use Rattle.std.proofs.lemmas.Bool.{ne_eqb}
use Rattle.rl_lanes.proofs.PackedLemmas.{IsRow, IsRow-length}
use Rattle.rl_lanes.proofs.CountLemmas.{rows_equal, rows_apart}
use Rattle.rl_lanes.proofs.row.BitRowPartialEq.eq.Goals as goal

pub returns-then-self-other : goal.returns-then-self-other
returns-then-self-other c =
    let row : IsRow c.self.inside.len c.self.inside.words.items c.args.self.now = record { packed = c.self.invariant; shows = c.self.view_is } in
    let other : IsRow c.other.inside.len c.other.inside.words.items c.args.other.now = record { packed = c.other.invariant; shows = c.other.view_is } in
    rows_equal c.args.self.now c.args.other.now c.eq.result (IsRow-length row ∙ c.if-self-other.true ∙ sym (IsRow-length other))
    (c.eq.ensures ∙ (λ i. pointwise eqb (c.words.ensures i) (c.words-then-self-other.ensures i)))

pub returns-else-self-other : goal.returns-else-self-other
returns-else-self-other c =
    let row : IsRow c.self.inside.len c.self.inside.words.items c.args.self.now = record { packed = c.self.invariant; shows = c.self.view_is } in
    let other : IsRow c.other.inside.len c.other.inside.words.items c.args.other.now = record { packed = c.other.invariant; shows = c.other.view_is } in
    ne_eqb _ _ c.if-self-other.false ∙ sym (rows_apart c.args.self.now c.args.other.now (λ e. c.if-self-other.false (sym (IsRow-length row) ∙ e ∙ IsRow-length other)))
