use Rattle.std.proofs.Common.{List, ap, false, length, sym, true, ℕ, ◌||◌, ◌∙◌, ◌≡◌, ◌==◌}
use Rattle.std.proofs.lemmas.Bool.{eqb-true}
use Rattle.std.proofs.lemmas.List.{nil_from_length}
use Rattle.rl_ranges.proofs.SetLemmas.{has-nil, or-false}
use Rattle.rl_ranges.specs.Codes.{has}
use Rattle.rl_ranges.proofs.code_set.CodeSet.whole.Goals as goal

-- An empty list holds nothing.
none_in : (ranges held : List (ℕ × ℕ)) → ranges ≡ held → (length ranges == 0) ≡ true → (c : ℕ) → has held c ≡ false
none_in ranges held same empty c =
    ap (λ l. has l c) (sym same ∙ nil_from_length ranges (eqb-true (length ranges) 0 empty)) ∙ has-nil c

pub returns-then-is_empty : goal.returns-then-is_empty
returns-then-is_empty c = λ x.
    sym (ap (λ b. has c.args.self.now x || b)
    (none_in c.as_ranges.result.now c.args.other.now c.as_ranges.ensures.value (sym c.is_empty.ensures ∙ c.if-is_empty.true) x)
    ∙ or-false _)

pub returns-then-is_empty-2 : goal.returns-then-is_empty-2
returns-then-is_empty-2 c = λ x.
    sym (ap (λ b. b || has c.args.other.now x)
    (none_in c.as_ranges-else-is_empty.result.now c.args.self.now c.as_ranges-else-is_empty.ensures.value (sym c.is_empty-else-is_empty.ensures ∙ c.if-is_empty-2.true) x))
