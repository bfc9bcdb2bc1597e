-- A run of bytes of a class ends at the first byte that isn't of the class, or at the end of the text.
use Rattle.std.proofs.Common.{◌≡◌, ℕ, ◌+◌, ◌≤◌, Bool, true, false, cond, not, List, [], ◌∷◌, length, refl, ◌∙◌, arith, ltb, Some, None}
use Rattle.std.specs.Prelude.{position, unwrap_or}
use Rattle.std.specs.List.{prefix_len}
use Rattle.std.proofs.lemmas.Bool.Decides.{nat_tests}

not-not : (b : Bool) → not (not b) ≡ b
not-not true = refl
not-not false = refl

pub prefix_len-not-not : (p : ℕ → Bool) (xs : List ℕ) → prefix_len (λ x. not (not (p x))) xs ≡ prefix_len p xs
prefix_len-not-not p [] = refl
prefix_len-not-not p (x ∷ xs) = simp (not-not, prefix_len-not-not p xs)

pub prefix_len-within : (p : ℕ → Bool) (xs : List ℕ) → prefix_len p xs ≤ length xs
prefix_len-within p [] = omega arith
prefix_len-within p (x ∷ xs) =
    elim (p x) as (λ b. cond b (1 + prefix_len p xs) 0 ≤ length (x ∷ xs)) [ true ↦ omega (arith, prefix_len-within p xs) | false ↦ omega arith ]

-- A place, or the end if there is none.
pub place-or-end : (n m : ℕ) → n ≤ m → unwrap_or (cond (ltb n m) (Some n) None) m ≡ n
place-or-end n m h = grind (arith, nat_tests)

pub run : (p : ℕ → Bool) (xs : List ℕ) → unwrap_or (position (λ c. not (p c)) xs) (length xs) ≡ prefix_len p xs
run p xs =
    place-or-end (prefix_len (λ x. not (not (p x))) xs) (length xs) (prefix_len-within (λ x. not (not (p x))) xs) ∙ prefix_len-not-not p xs

pub ruleset runs = (prefix_len-within)
