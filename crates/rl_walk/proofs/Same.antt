-- The children of a folder have only one order by name.
use Rattle.std.proofs.Common.{◌≡◌, ℕ, zero, suc, ◌+◌, ◌<◌, Bool, true, false, ◌||◌, List, [], ◌∷◌, length, get_or, ◌⊎◌, inl, inr, refl, sym, ap, subst, ◌∙◌, arith}
use Rattle.std.specs.Prelude.{bytes_eq, IsPermutation, Contains}
use Rattle.std.specs.List.{list_any, AllByRecursion, IsDistinct}
use Rattle.std.specs.List.Sorted.{IsStrictlySortedBy}
use Rattle.std.specs.Ordering.{is_lt, is_eq, ordering_reverse}
use Rattle.std.specs.Cmp.{IsTotalOrder}
use Rattle.std.specs.Cmp.Lexicographic.{on_texts}
use Rattle.std.specs.declared.cmp.Ordering.{Ordering}
use Rattle.std.specs.declared.cmp.Ordering.TheVariants.{Less, Equal, Greater}
use Rattle.std.proofs.lemmas.Bool.Decides.{same_from_decides}
use Rattle.std.proofs.lemmas.List.Sorted.{Contains-permutation, IsPermutation-sym, IsPermutation-trans}
use Rattle.std.proofs.lemmas.Map.Keys.{IsDistinct-IsPermutation, apart_from_distinct, sorted_from_all_adjacent, sorted_head, sorted_tail}
use Rattle.std.proofs.lemmas.Map.Text.{is_eq-slice_cmp}
use Rattle.std.proofs.lemmas.Slice.Eq.{bytes_eq-Decides}
use Rattle.rl_source.specs.Distinct.{has_double}
use Rattle.rl_source.specs.declared.nodes.Child.{Child}
use Rattle.rl_walk.specs.Children.{by_name, IsInOrder}

-- The names of two children are equal.
abbrev same_name : Child → Child → Bool
same_name x y = bytes_eq y.name x.name

same_name-flips : (x y : Child) → same_name x y ≡ same_name y x
same_name-flips x y = same_from_decides _ _ (bytes_eq-Decides y.name x.name)
    ((λ e. sym ((bytes_eq-Decides x.name y.name).0 e)), (λ e. (bytes_eq-Decides x.name y.name).1 (sym e)))

or_parts : (a b : Bool) → (a || b) ≡ false → (a ≡ false) × (b ≡ false)
or_parts true b e = cc
or_parts false b e = (refl, e)

none_passes : (p : Child → Bool) (xs : List Child) → list_any p xs ≡ false → AllByRecursion (λ y. p y ≡ false) xs
none_passes p [] e = tt
none_passes p (x ∷ xs) e = let parts = or_parts (p x) (list_any p xs) e in (parts.0, none_passes p xs parts.1)

distinct-from_once : (xs : List Child) → has_double (λ c. c.name) xs ≡ false → IsDistinct same_name xs
unfolding IsDistinct
distinct-from_once [] e = tt
distinct-from_once (x ∷ xs) e =
    let parts = or_parts (list_any (λ (y : Child). bytes_eq y.name x.name) xs) (has_double (λ c. c.name) xs) e in
    (none_passes (λ (y : Child). bytes_eq y.name x.name) xs parts.0, distinct-from_once xs parts.1)

total : IsTotalOrder by_name
total = on_texts (λ (c : Child). c.name)

turned : (a b : Ordering) → is_lt a ≡ false → is_eq a ≡ false → b ≡ ordering_reverse a → b ≡ Less
turned Less b e f g = cc
turned Equal b e f g = cc
turned Greater b e f g = g

rises : (x y : Child) → is_lt (by_name y x) ≡ false → same_name x y ≡ false → by_name x y ≡ Less
rises x y up apart = turned (by_name y x) (by_name x y) up (is_eq-slice_cmp y.name x.name ∙ apart) (total.antisymm x y)

strict : (children sorted : List Child) → has_double (λ c. c.name) children ≡ false → IsInOrder children sorted → IsStrictlySortedBy by_name sorted
unfolding IsStrictlySortedBy
strict children [] once order = tt
strict children (x ∷ xs) once order =
    let apart = IsDistinct-IsPermutation same_name same_name-flips children (x ∷ xs) order.same (distinct-from_once children once) in
    sorted_from_all_adjacent total (x ∷ xs) x (λ k within.
    rises (get_or (x ∷ xs) k x) (get_or (x ∷ xs) (k + 1) x) (order.rising k x (omega arith) within)
    (apart_from_distinct same_name (x ∷ xs) k (k + 1) x apart (omega arith) within))

-- Membership, by recursion on the list.
abbrev In : Child → List Child → Type 0
In z [] = ⊥
In z (x ∷ xs) = (z ≡ x) ⊎ In z xs

in_at : (z : Child) (xs : List Child) (k : ℕ) → k < length xs → get_or xs k z ≡ z → In z xs
in_at z [] k within e = absurd (omega arith)
in_at z (x ∷ xs) zero within e = inl (sym e)
in_at z (x ∷ xs) (suc k) within e = inr (in_at z xs k (omega arith) e)

at_in : (z : Child) (xs : List Child) → In z xs → Contains xs z
at_in z [] h = absurd h
at_in z (x ∷ xs) (inl e) = (0, omega arith, sym e)
at_in z (x ∷ xs) (inr h) = let c = at_in z xs h in (suc c.0, omega (arith, c.1), c.2)

all_in : (P : Child → Type 0) (z : Child) (xs : List Child) → AllByRecursion P xs → In z xs → P z
all_in P z [] all h = absurd h
all_in P z (x ∷ xs) all (inl e) = subst P (sym e) all.0
all_in P z (x ∷ xs) all (inr h) = all_in P z xs all.1 h

not_both : (x y : Child) → by_name x y ≡ Less → by_name y x ≡ Less → ⊥
not_both x y e f = let t = total.antisymm x y in let r = ap ordering_reverse f in cc

heads : (x y : Child) (xs ys : List Child) → AllByRecursion (λ z. by_name x z ≡ Less) xs → AllByRecursion (λ z. by_name y z ≡ Less) ys
    → In x (y ∷ ys) → In y (x ∷ xs) → x ≡ y
heads x y xs ys above over (inl e) k = e
heads x y xs ys above over (inr h) (inl e) = sym e
heads x y xs ys above over (inr h) (inr k) = absurd (not_both x y (all_in (λ z. by_name x z ≡ Less) y xs above k) (all_in (λ z. by_name y z ≡ Less) x ys over h))

tails : (x y z : Child) (xs ys : List Child) → x ≡ y → AllByRecursion (λ w. by_name x w ≡ Less) xs → In z xs → In z (y ∷ ys) → In z ys
tails x y z xs ys e above h (inr k) = k
tails x y z xs ys e above h (inl f) =
    let low : by_name x z ≡ Less = all_in (λ w. by_name x w ≡ Less) z xs above h in
    let self : by_name x x ≡ Less = subst (λ w. by_name x w ≡ Less) (f ∙ sym e) low in
    absurd (not_both x x self self)

same_rising : (xs ys : List Child) → IsStrictlySortedBy by_name xs → IsStrictlySortedBy by_name ys
    → ((z : Child) → In z xs → In z ys) → ((z : Child) → In z ys → In z xs) → xs ≡ ys
same_rising [] [] s t f g = refl
same_rising [] (y ∷ ys) s t f g = absurd (g y (inl refl))
same_rising (x ∷ xs) [] s t f g = absurd (f x (inl refl))
same_rising (x ∷ xs) (y ∷ ys) s t f g =
    let above = sorted_head by_name x xs s in
    let over = sorted_head by_name y ys t in
    let e : x ≡ y = heads x y xs ys above over (f x (inl refl)) (g y (inl refl)) in
    let rest : xs ≡ ys = same_rising xs ys (sorted_tail by_name x xs s) (sorted_tail by_name y ys t)
    (λ z h. tails x y z xs ys e above h (f z (inr h)))
    (λ z h. tails y x z ys xs (sym e) over h (g z (inr h))) in
    ap (λ z. z ∷ xs) e ∙ ap (λ l. y ∷ l) rest

moved : (xs ys : List Child) → IsPermutation xs ys → (z : Child) → In z xs → In z ys
moved xs ys p z h = let c = Contains-permutation xs ys z p (at_in z xs h) in in_at z ys c.0 c.1 c.2

pub one_order : (children first second : List Child) → has_double (λ c. c.name) children ≡ false → IsInOrder children first → IsInOrder children second → first ≡ second
one_order children first second once a b =
    let there = IsPermutation-trans first children second (IsPermutation-sym children first a.same) b.same in
    same_rising first second (strict children first once a) (strict children second once b)
    (moved first second there) (moved second first (IsPermutation-sym first second there))
