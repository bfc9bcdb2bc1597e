-- The value of a code in a list of stretches.
use Rattle.std.proofs.Common.{List, [], ap, arith, inl, inr, le_of_suc-le-suc, length, nat_le, not-suc-le-zero, refl, suc, suc-le-suc, zero, zero-lt-suc, ℕ, ◌++◌, ◌-◌, ◌<◌, ◌∙◌, ◌∷◌, ◌≡◌, ◌≤◌}
use Rattle.std.proofs.lemmas.Bool.{cases_lt, le-leb, lt-leb}
use Rattle.std.proofs.lemmas.List.{get_or_append_left, get_or_at, length_push}
use Rattle.std.specs.Prelude.{if◌then◌else◌}
use Rattle.rl_ranges.specs.Building.{range_at}
use Rattle.rl_ranges.specs.Letters.{letter_from}
use Rattle.rl_ranges.specs.Numbering.{Covers}

pub letter_from-append : (a : ℕ) (xs ys : List (ℕ × ℕ)) (c : ℕ) → letter_from a (xs ++ ys) c ≡ letter_from (letter_from a xs c) ys c
letter_from-append a [] ys c = refl
letter_from-append a (x ∷ xs) ys c = letter_from-append (if nat_le x.0 c then x.1 else a) xs ys c

pub letter_from-push : (a : ℕ) (xs : List (ℕ × ℕ)) (s : ℕ × ℕ) (c : ℕ) → letter_from a (xs ++ s ∷ []) c ≡ (if nat_le s.0 c then s.1 else letter_from a xs c)
letter_from-push a xs s c = letter_from-append a xs (s ∷ []) c

-- No stretch has begun yet.
pub letter_from-late : (a : ℕ) (xs : List (ℕ × ℕ)) (c : ℕ) → ((k : ℕ) → k < length xs → c < (range_at xs k).0) → letter_from a xs c ≡ a
letter_from-late a [] c h = refl
letter_from-late a (x ∷ xs) c h =
    ap (λ b. letter_from (if b then x.1 else a) xs c) (lt-leb x.0 c (h zero (zero-lt-suc _)))
    ∙ letter_from-late a xs c (λ k lt. h (suc k) (suc-le-suc lt))

-- The last stretch that has begun decides.
pub letter_from-at : (a : ℕ) (xs : List (ℕ × ℕ)) (i c : ℕ) → i < length xs → (range_at xs i).0 ≤ c → ((k : ℕ) → i < k → k < length xs → c < (range_at xs k).0) → letter_from a xs c ≡ (range_at xs i).1
letter_from-at a [] i c lt le h = absurd (not-suc-le-zero lt)
letter_from-at a (x ∷ xs) zero c lt le h =
    ap (λ b. letter_from (if b then x.1 else a) xs c) (le-leb x.0 c le)
    ∙ letter_from-late x.1 xs c (λ k k_in. h (suc k) (zero-lt-suc _) (suc-le-suc k_in))
letter_from-at a (x ∷ xs) (suc i) c lt le h =
    letter_from-at (if nat_le x.0 c then x.1 else a) xs i c (le_of_suc-le-suc lt) le (λ k ik k_in. h (suc k) (suc-le-suc ik) (suc-le-suc k_in))

pub Covers-push : (xs : List (ℕ × ℕ)) (count at value : ℕ) → Covers xs count → (range_at xs (length xs - 1)).0 < at → at < count → Covers (xs ++ (at, value) ∷ []) count
Covers-push xs count at value h last inside =
    let n = length xs in
    let len = length_push xs (at, value) in
    let old : (k : ℕ) → k < n → range_at (xs ++ (at, value) ∷ []) k ≡ range_at xs k = λ k lt. get_or_append_left xs ((at, value) ∷ []) (0, 0) k lt in
    let new : range_at (xs ++ (at, value) ∷ []) n ≡ (at, value) = get_or_at xs (at, value) [] (0, 0) n refl in
    let below : (j : ℕ) → j < n → (range_at xs j).0 < at = λ j lt. elim (cases_lt j (n - 1)) [
      | inl less ↦ let rise = h.rising j (n - 1) less (omega arith) in omega arith
      | inr more ↦ let is : j ≡ n - 1 = omega arith in omega (arith, ap (λ k. (range_at xs k).0) is)
    ] in
    record {
      some = omega arith;
      start = ap (λ (r : ℕ × ℕ). r.0) (old 0 h.some) ∙ h.start;
      rising = λ j k jk k_in. elim (cases_lt k n) [
        | inl less ↦ omega (arith, ap (λ (r : ℕ × ℕ). r.0) (old j (omega arith)), ap (λ (r : ℕ × ℕ). r.0) (old k less), h.rising j k jk less)
        | inr more ↦
            let is : k ≡ n = omega arith in
            omega (arith, ap (λ (r : ℕ × ℕ). r.0) (old j (omega arith)), ap (λ i. (range_at (xs ++ (at, value) ∷ []) i).0) is, ap (λ (r : ℕ × ℕ). r.0) new, below j (omega arith))
      ];
      within = λ k k_in. elim (cases_lt k n) [
        | inl less ↦ omega (arith, ap (λ (r : ℕ × ℕ). r.0) (old k less), h.within k less)
        | inr more ↦
            let is : k ≡ n = omega arith in
            omega (arith, ap (λ i. (range_at (xs ++ (at, value) ∷ []) i).0) is, ap (λ (r : ℕ × ℕ). r.0) new)
      ];
    }
