-- Lemmas about rows of truth values: what a place holds after each operation, and how facts about sets are decided.
use Rattle.std.proofs.Common.{◌≡◌, ℕ, zero, suc, ◌<◌, ◌⊎◌, Bool, true, false, not, ◌&&◌, ◌||◌, List, [], ◌∷◌, length, get_or, replicate, refl, sym, inl, inr, arith}
use Rattle.std.specs.Simd.Lanes.{zip2}
use Rattle.std.proofs.lemmas.Simd.{length-zip2}
use Rattle.std.proofs.lemmas.Bool.{false≢true, both_ways, cases_lt}
use Rattle.std.proofs.lemmas.List.{ext_get_or, get_or_past}
use Rattle.rl_lanes.specs.Rows.{list_or, list_and_not, Meets, AreApart, IsSubset, HasOther}

pub get_or-zip2_all : (t : Bool → Bool → Bool) (a b : List Bool) (i : ℕ) → t false false ≡ false → length a ≡ length b → get_or (zip2 t a b) i false ≡ t (get_or a i false) (get_or b i false)
get_or-zip2_all t [] [] i none same = sym none
get_or-zip2_all t [] (y ∷ b) i none same = absurd (omega arith)
get_or-zip2_all t (x ∷ a) [] i none same = absurd (omega arith)
get_or-zip2_all t (x ∷ a) (y ∷ b) zero none same = refl
get_or-zip2_all t (x ∷ a) (y ∷ b) (suc i) none same = get_or-zip2_all t a b i none (omega arith)

pub length-list_or : (a b : List Bool) → length a ≡ length b → length (list_or a b) ≡ length a
unfolding list_or
length-list_or a b same = length-zip2 (λ x y. x || y) a b same

pub get_or-list_or : (a b : List Bool) (i : ℕ) → length a ≡ length b → get_or (list_or a b) i false ≡ (get_or a i false || get_or b i false)
unfolding list_or
get_or-list_or a b i same = get_or-zip2_all (λ x y. x || y) a b i refl same

pub length-list_and_not : (a b : List Bool) → length a ≡ length b → length (list_and_not a b) ≡ length a
unfolding list_and_not
length-list_and_not a b same = length-zip2 (λ x y. x && not y) a b same

pub get_or-list_and_not : (a b : List Bool) (i : ℕ) → length a ≡ length b → get_or (list_and_not a b) i false ≡ (get_or a i false && not (get_or b i false))
unfolding list_and_not
get_or-list_and_not a b i same = get_or-zip2_all (λ x y. x && not y) a b i refl same

pub get_or-replicate_false : (n i : ℕ) → get_or (replicate n false) i false ≡ false
get_or-replicate_false zero i = refl
get_or-replicate_false (suc n) zero = refl
get_or-replicate_false (suc n) (suc i) = get_or-replicate_false n i

-- ---- facts about sets are decided
shifted_subset : (p q : Bool) (a b : List Bool) → (p ≡ true → q ≡ true) → IsSubset a b → IsSubset (p ∷ a) (q ∷ b)
shifted_subset p q a b head tail zero e = head e
shifted_subset p q a b head tail (suc i) e = tail i e

-- Either the first row is a subset of the second, or some place is true only in the first.
pub subset_or_other : (a b : List Bool) → IsSubset a b ⊎ HasOther a b
subset_or_other [] b = inl (λ i e. absurd (false≢true e))
subset_or_other (true ∷ a) [] = inr (zero, refl, refl)
subset_or_other (true ∷ a) (false ∷ b) = inr (zero, refl, refl)
subset_or_other (true ∷ a) (true ∷ b) = elim (subset_or_other a b) [ inl all ↦ inl (shifted_subset true true a b (λ e. e) all) | inr (i, on, off) ↦ inr (suc i, on, off) ]
subset_or_other (false ∷ a) [] = elim (subset_or_other a []) [ inl all ↦ inl (shifted_nil a all) | inr (i, on, off) ↦ inr (suc i, on, off) ]
  where
    shifted_nil : (xs : List Bool) → IsSubset xs [] → IsSubset (false ∷ xs) []
    shifted_nil xs all zero e = absurd (false≢true e)
    shifted_nil xs all (suc i) e = all i e
subset_or_other (false ∷ a) (q ∷ b) = elim (subset_or_other a b) [ inl all ↦ inl (shifted_subset false q a b (λ e. absurd (false≢true e)) all) | inr (i, on, off) ↦ inr (suc i, on, off) ]

shifted_apart : (p q : Bool) (a b : List Bool) → (p ≡ true → q ≡ false) → AreApart a b → AreApart (p ∷ a) (q ∷ b)
shifted_apart p q a b head tail zero e = head e
shifted_apart p q a b head tail (suc i) e = tail i e

-- Either some place is true in both rows, or none is.
pub meets_or_apart : (a b : List Bool) → Meets a b ⊎ AreApart a b
meets_or_apart [] b = inr (λ i e. absurd (false≢true e))
meets_or_apart (p ∷ a) [] = inr (λ i e. refl)
meets_or_apart (true ∷ a) (true ∷ b) = inl (zero, refl, refl)
meets_or_apart (true ∷ a) (false ∷ b) = elim (meets_or_apart a b) [ inl (i, on, also) ↦ inl (suc i, on, also) | inr none ↦ inr (shifted_apart true false a b (λ _. refl) none) ]
meets_or_apart (false ∷ a) (q ∷ b) = elim (meets_or_apart a b) [ inl (i, on, also) ↦ inl (suc i, on, also) | inr none ↦ inr (shifted_apart false q a b (λ e. absurd (false≢true e)) none) ]

-- Rows of equal length with the same values are equal.
pub same_places : (a b : List Bool) → length a ≡ length b → ((i : ℕ) → i < length a → get_or a i false ≡ get_or b i false) → a ≡ b
same_places a b = ext_get_or false a b

-- A place that is true is within the row.
pub place_within : (row : List Bool) (i : ℕ) → get_or row i false ≡ true → i < length row
place_within row i e = elim (cases_lt i (length row)) [ inl lt ↦ lt | inr ge ↦ absurd (both_ways (get_or row i false) (get_or_past row i false ge) e) ]
