-- The count of the entries so far, with one more entry.
use Rattle.std.proofs.Common.{◌≡◌, ℕ, ◌+◌, ◌<◌, ◌≤◌, Bool, true, false, List, length, get_or, take, ap, sym, ◌∙◌, arith}
use Rattle.std.specs.List.{count_by}
use Rattle.std.proofs.lemmas.List.{length-take}
use Rattle.std.proofs.lemmas.List.Sums.{count_by_more_yes, count_by_more_no, count_by-le-length}

pub counted : {X : Type 0} (p : X → Bool) (xs : List X) (i n : ℕ) (x : X) → i < length xs → x ≡ get_or xs i x → p x ≡ true
    → n ≡ count_by p (take i xs) → n + 1 ≡ count_by p (take (i + 1) xs)
counted p xs i n x h e passes is = ap (λ k. k + 1) is ∙ sym (count_by_more_yes p xs i x h (ap p (sym e) ∙ passes))

pub passed_over : {X : Type 0} (p : X → Bool) (xs : List X) (i n : ℕ) (x : X) → i < length xs → x ≡ get_or xs i x → p x ≡ false
    → n ≡ count_by p (take i xs) → n ≡ count_by p (take (i + 1) xs)
passed_over p xs i n x h e fails is = is ∙ sym (count_by_more_no p xs i x h (ap p (sym e) ∙ fails))

pub few_so_far : {X : Type 0} (p : X → Bool) (xs : List X) (i n : ℕ) → n ≡ count_by p (take i xs) → n ≤ i
few_so_far p xs i n is = omega (arith, count_by-le-length p (take i xs), length-take i xs)
