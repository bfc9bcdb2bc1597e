-- The first fault of several lists is the first of their first faults.
use Rattle.std.proofs.Common.{◌≡◌, ℕ, Bool, true, false, cond, ◌&&◌, ◌||◌, ◌==◌, List, [], ◌∷◌, ◌++◌, Option, Some, None, refl, sym, ap, ◌∙◌, arith, nat_lt, nat_le}
use Rattle.std.proofs.lemmas.Bool.{true≢false}
use Rattle.std.proofs.lemmas.Bool.Decides.{nat_tests}
use Rattle.rl_pattern.specs.Found.{Fault, rank, comes_first, first_fault, earlier}

-- The order of positions and ranks.
abbrev upto : ℕ → ℕ → ℕ → ℕ → Bool
upto p r q s = nat_lt p q || (p == q && nat_le r s)

upto_trans : (p r q s o t : ℕ) → upto p r q s ≡ true → upto q s o t ≡ true → upto p r o t ≡ true
upto_trans p r q s o t h k = grind (arith, nat_tests)

upto_total : (p r q s : ℕ) → upto p r q s ≡ false → upto q s p r ≡ true
upto_total p r q s h = grind (arith, nat_tests)

first_trans : (a b c : Fault) → comes_first a b ≡ true → comes_first b c ≡ true → comes_first a c ≡ true
first_trans a b c h k = upto_trans a.place (rank a.what) b.place (rank b.what) c.place (rank c.what) h k

first_total : (a b : Fault) → comes_first a b ≡ false → comes_first b a ≡ true
first_total a b h = upto_total a.place (rank a.what) b.place (rank b.what) h

-- A fault, and then one of two.
of_three : (a b c : Fault) → earlier (Some a) (earlier (Some b) (Some c)) ≡ earlier (earlier (Some a) (Some b)) (Some c)
of_three a b c = go (comes_first a b) (comes_first b c) refl refl
  where
    left_side : (v : Bool) → comes_first b c ≡ v → earlier (Some a) (earlier (Some b) (Some c)) ≡ earlier (Some a) (cond v (Some b) (Some c))
    left_side v e = ap (λ u. earlier (Some a) (cond u (Some b) (Some c))) e

    right_side : (v : Bool) → comes_first a b ≡ v → earlier (earlier (Some a) (Some b)) (Some c) ≡ earlier (cond v (Some a) (Some b)) (Some c)
    right_side v e = ap (λ u. earlier (cond u (Some a) (Some b)) (Some c)) e

    pick : (x y : Fault) (v : Bool) → comes_first x y ≡ v → earlier (Some x) (Some y) ≡ cond v (Some x) (Some y)
    pick x y v e = ap (λ u. cond u (Some x) (Some y)) e

    go : (u v : Bool) → comes_first a b ≡ u → comes_first b c ≡ v → earlier (Some a) (earlier (Some b) (Some c)) ≡ earlier (earlier (Some a) (Some b)) (Some c)
    go true true e f = left_side true f ∙ pick a b true e ∙ sym (right_side true e ∙ pick a c true (first_trans a b c e f))
    go true false e f = left_side false f ∙ sym (right_side true e)
    go false true e f = left_side true f ∙ pick a b false e ∙ sym (right_side false e ∙ pick b c true f)
    go false false e f = left_side false f ∙ pick a c false (not_first (comes_first a c) refl) ∙ sym (right_side false e ∙ pick b c false f)
      where
        not_first : (w : Bool) → comes_first a c ≡ w → comes_first a c ≡ false
        not_first false g = g
        not_first true g = absurd (true≢false (sym (first_trans a c b g (first_total b c f)) ∙ e))

earlier_assoc : (x y z : Option Fault) → earlier x (earlier y z) ≡ earlier (earlier x y) z
earlier_assoc None y z = refl
earlier_assoc (Some a) None z = refl
earlier_assoc (Some a) (Some b) None = go (comes_first a b) refl
  where
    go : (v : Bool) → comes_first a b ≡ v → earlier (Some a) (Some b) ≡ earlier (earlier (Some a) (Some b)) None
    go true e = ap (λ u. cond u (Some a) (Some b)) e ∙ sym (ap (λ u. earlier (cond u (Some a) (Some b)) None) e)
    go false e = ap (λ u. cond u (Some a) (Some b)) e ∙ sym (ap (λ u. earlier (cond u (Some a) (Some b)) None) e)
earlier_assoc (Some a) (Some b) (Some c) = of_three a b c

pub first_of_joined : (xs ys : List Fault) → first_fault (xs ++ ys) ≡ earlier (first_fault xs) (first_fault ys)
first_of_joined [] ys = refl
first_of_joined (a ∷ xs) ys = ap (earlier (Some a)) (first_of_joined xs ys) ∙ earlier_assoc (Some a) (first_fault xs) (first_fault ys)

-- The first fault so far, and one more list.
pub best_of_more : (best : Option Fault) (xs ys : List Fault) → earlier (earlier best (first_fault xs)) (first_fault ys) ≡ earlier best (first_fault (xs ++ ys))
best_of_more best xs ys = sym (ap (earlier best) (first_of_joined xs ys) ∙ earlier_assoc best (first_fault xs) (first_fault ys))

-- A first fault before the first fault of another list.
pub own_first : (whole own inner : Option Fault) (xs ys : List Fault) → whole ≡ earlier own inner → own ≡ first_fault xs → inner ≡ first_fault ys → whole ≡ first_fault (xs ++ ys)
own_first whole own inner xs ys e f g = e ∙ ap (λ a. earlier a inner) f ∙ ap (earlier (first_fault xs)) g ∙ sym (first_of_joined xs ys)
