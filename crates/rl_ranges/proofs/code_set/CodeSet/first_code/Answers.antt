-- A list without a first range is empty and holds nothing.
use Rattle.std.proofs.Common.{List, None, Option, Some, [], ap, false, slice_get, subst, sym, true, zero-lt-suc, ℕ, ◌<◌, ◌∙◌, ◌∷◌, ◌≡◌}
use Rattle.rl_ranges.proofs.SetLemmas.{has-first, has-nil}
use Rattle.rl_ranges.specs.Codes.{Above, has}
use Rattle.rl_ranges.proofs.code_set.CodeSet.first_code.Goals as goal

none_held : (xs ys : List (ℕ × ℕ)) → ◌≡◌ {A = Option (ℕ × ℕ)} None (slice_get xs 0) → xs ≡ ys → (c : ℕ) → has ys c ≡ false
none_held [] ys none same c = ap (λ l. has l c) (sym same) ∙ has-nil c
none_held (x ∷ xs) ys none same c = cc

-- The first code of a sorted list is the least code that it holds.
least_held : (xs ys : List (ℕ × ℕ)) (r : ℕ × ℕ) → Above 0 xs → ◌≡◌ {A = Option (ℕ × ℕ)} (Some r) (slice_get xs 0) → xs ≡ ys → (has ys r.0 ≡ true) × ((c : ℕ) → c < r.0 → has ys c ≡ false)
least_held [] ys r sorted is same = cc
least_held (x ∷ xs) ys r sorted is same =
    let P : List (ℕ × ℕ) → Type 0 = λ l. (has l r.0 ≡ true) × ((c : ℕ) → c < r.0 → has l c ≡ false) in
    let first : x ≡ r = cc in
    subst P same (has-first 0 (x ∷ xs) r sorted (zero-lt-suc _) first)

pub returns-in_err-first : goal.returns-in_err-first
returns-in_err-first c =
    rw c.from_residual.ensures (none_held _ _ c.in_err-first.ensures.value c.as_ranges.ensures.value)

pub returns : goal.returns
returns c =
    least_held _ _ c.in_ok-first.field-0.now c.as_ranges.ensures.sorted
    c.in_ok-first.ensures.value c.as_ranges.ensures.value
