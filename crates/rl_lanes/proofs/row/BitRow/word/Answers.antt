use Rattle.std.proofs.Common.{◌≡◌, length, get_or, ap, sym, ◌∙◌, arith}
use Rattle.std.proofs.lemmas.Bool.{eqb-true}
use Rattle.std.proofs.lemmas.List.{get_or_past}
use Rattle.rl_lanes.proofs.PackedLemmas.{IsRow-word}
use Rattle.rl_lanes.proofs.row.BitRow.word.Goals as goal

pub returns-then-is_empty : goal.returns-then-is_empty
returns-then-is_empty c =
    let none : length c.as_slice-words.result.now ≡ 0 = eqb-true _ 0 (sym c.is_empty.ensures ∙ c.if-is_empty.true) in
    IsRow-word (record { packed = c.self.invariant; shows = c.self.view_is }) (sym (get_or_past c.self.inside.words.items 0 0 (omega (arith, none, ap length c.as_slice-words.ensures))))

pub returns-else-is_empty : goal.returns-else-is_empty
returns-else-is_empty c = IsRow-word (record { packed = c.self.invariant; shows = c.self.view_is }) (ap (λ l. get_or l 0 0) c.as_slice-words.ensures)
