-- The pairs of the parts of the product, put in one by one.
use Rattle.std.proofs.Common.{◌≡◌, ◌≢◌, ℕ, ◌+◌, ◌*◌, ◌<◌, ◌≤◌, ◌⊎◌, inl, inr, true, false, List, [], ◌∷◌, ◌++◌, length, get_or, refl, sym, ◌∙◌, ap, ap₂, subst, arith, length-set, get_or-set_same, get_or-set_other}
use Rattle.std.proofs.lemmas.Bool.{cases_eq, cases_lt}
use Rattle.std.proofs.lemmas.List.{length_push, get_or_push, get_or_append_left}
use Rattle.rl_graph.specs.Parts.{PartTable, number_of}
use Rattle.rl_degree.specs.internal.Pairs.{is_wanted, Lists, list_of, row_of, HasOwnList, IsPut, IsBarePlaced, IsListed, IsPlacedUpTo}

-- Nothing is placed yet.
pub placed-bare : (c : List ℕ) (parts : PartTable) (n : ℕ) (p : Lists) → IsBarePlaced (n * n) p → IsPlacedUpTo c parts n 0 p
placed-bare c parts n p b = record {
  numbered = b.numbered;
  size = b.size;
  lists = b.lists;
  held = λ x h w. absurd (omega arith);
  pairs = λ k i h. absurd (none k i h);
  of_part = λ k i h. absurd (none k i h);
  are_wanted = λ k i h. absurd (none k i h);
  short = λ k. omega (arith, ap length (b.empty k));
}
  where
    none : (k i : ℕ) → i < length (row_of p k) → ⊥
    none k i h = omega (arith, ap length (b.empty k))

-- The laws below are about one more pair.

-- If something holds of all members and of the new one, it holds of all members now.
each-more : (P : ℕ → ℕ → Type 0) (p new : Lists) (part x : ℕ) → IsPut part x p new → ((k i : ℕ) → i < length (row_of p k) → P k (get_or (row_of p k) i 0)) → P part x
    → (k i : ℕ) → i < length (row_of new k) → P k (get_or (row_of new k) i 0)
each-more P p new part x put old fresh k i lt = by (cases_eq k part)
  where
    here : (r : List ℕ) → i < length (r ++ x ∷ []) → ((j : ℕ) → j < length r → P part (get_or r j 0)) → P part (get_or (r ++ x ∷ []) i 0)
    here r small each = last (cases_lt i (length r))
      where
        last : (i < length r) ⊎ (length r ≤ i) → P part (get_or (r ++ x ∷ []) i 0)
        last (inl a) = subst (P part) (sym (get_or_append_left r (x ∷ []) 0 i a)) (each i a)
        last (inr a) = subst (P part) (sym (get_or_push r x 0 i (omega (arith, length_push r x)))) fresh

    by : (k ≡ part) ⊎ (k ≢ part) → P k (get_or (row_of new k) i 0)
    by (inr ne) =
        let e = put.elsewhere k ne in
        subst (λ (r : List ℕ). P k (get_or r i 0)) (sym e) (old k i (omega (arith, ap length e)))
    by (inl e) =
        let f : row_of new k ≡ row_of p part ++ x ∷ [] = ap (row_of new) e ∙ put.here in
        subst (λ (r : List ℕ). P k (get_or r i 0)) (sym f) (subst (λ (z : ℕ). P z (get_or (row_of p part ++ x ∷ []) i 0)) (sym e)
        (here (row_of p part) (omega (arith, ap length f)) (old part)))

rows-longer : (p new : Lists) (part x k : ℕ) → IsPut part x p new → (length (row_of p k) ≤ length (row_of new k)) × (length (row_of new k) ≤ length (row_of p k) + 1)
rows-longer p new part x k put = by (cases_eq k part)
  where
    by : (k ≡ part) ⊎ (k ≢ part) → (length (row_of p k) ≤ length (row_of new k)) × (length (row_of new k) ≤ length (row_of p k) + 1)
    by (inr ne) = let e = ap length (put.elsewhere k ne) in (omega arith, omega arith)
    by (inl e) =
        let f = ap length (ap (row_of new) e ∙ put.here) in
        let g = length_push (row_of p part) x in
        let d = ap (λ z. length (row_of p z)) e in
        (omega (arith, f, g, d), omega (arith, f, g, d))

-- A member stays at its place.
row-stays : (p new : Lists) (part x k i : ℕ) → IsPut part x p new → i < length (row_of p k) → get_or (row_of new k) i 0 ≡ get_or (row_of p k) i 0
row-stays p new part x k i put lt = by (cases_eq k part)
  where
    by : (k ≡ part) ⊎ (k ≢ part) → get_or (row_of new k) i 0 ≡ get_or (row_of p k) i 0
    by (inr ne) = ap (λ (r : List ℕ). get_or r i 0) (put.elsewhere k ne)
    by (inl e) =
        let small : i < length (row_of p part) = omega (arith, ap (λ z. length (row_of p z)) e) in
        ap (λ (r : List ℕ). get_or r i 0) (ap (row_of new) e ∙ put.here)
        ∙ (get_or_append_left (row_of p part) (x ∷ []) 0 i small ∙ ap (λ z. get_or (row_of p z) i 0) (sym e))

held-stays : (parts : PartTable) (p new : Lists) (part x y : ℕ) → IsPut part x p new → y ≢ x → IsListed parts p y → IsListed parts new y
held-stays parts p new part x y put ne held =
    let e : get_or new.places y 0 ≡ get_or p.places y 0 = ap (λ z. get_or z y 0) put.places ∙ get_or-set_other p.places x y (length (row_of p part)) 0 ne in
    record {
      within = omega (arith, e, held.within, rows-longer p new part x (number_of parts y) put);
      here = ap (λ z. get_or (row_of new (number_of parts y)) z 0) e ∙ (row-stays p new part x (number_of parts y) (get_or p.places y 0) put held.within ∙ held.here);
    }

held-new : (parts : PartTable) (p new : Lists) (x : ℕ) → IsPut (number_of parts x) x p new → x < length p.places → IsListed parts new x
held-new parts p new x put k =
    let part = number_of parts x in
    let e : get_or new.places x 0 ≡ length (row_of p part) = ap (λ z. get_or z x 0) put.places ∙ get_or-set_same p.places x (length (row_of p part)) 0 k in
    record {
      within = omega (arith, e, ap length put.here, length_push (row_of p part) x);
      here = ap₂ (λ (r : List ℕ) (z : ℕ). get_or r z 0) put.here e ∙ get_or_push (row_of p part) x 0 (length (row_of p part)) refl;
    }

pub placed-more : (c : List ℕ) (parts : PartTable) (n x : ℕ) (p new : Lists) → x < n * n → is_wanted c parts n x ≡ true → IsPut (number_of parts x) x p new → IsPlacedUpTo c parts n x p → IsPlacedUpTo c parts n (x + 1) new
placed-more c parts n x p new lt w put o =
    let part = number_of parts x in
    record {
      numbered = put.size ∙ o.numbered;
      size = ap length put.places ∙ (length-set p.places x (length (row_of p part)) ∙ o.size);
      lists = put.lists;
      held = λ y small wy. by y small wy (cases_eq y x);
      pairs = each-more (λ k z. z < n * n) p new part x put o.pairs lt;
      of_part = each-more (λ k z. number_of parts z ≡ k) p new part x put o.of_part refl;
      are_wanted = each-more (λ k z. is_wanted c parts n z ≡ true) p new part x put o.are_wanted w;
      short = λ k. omega (arith, o.short k, rows-longer p new part x k put);
    }
  where
    by : (y : ℕ) → y < x + 1 → is_wanted c parts n y ≡ true → (y ≡ x) ⊎ (y ≢ x) → IsListed parts new y
    by y small wy (inr ne) = held-stays parts p new (number_of parts x) x y put ne (o.held y (omega arith) wy)
    by y small wy (inl e) = subst (IsListed parts new) (sym e) (held-new parts p new x put (omega (arith, o.size)))

pub placed-passed : (c : List ℕ) (parts : PartTable) (n x : ℕ) (p : Lists) → is_wanted c parts n x ≡ false → IsPlacedUpTo c parts n x p → IsPlacedUpTo c parts n (x + 1) p
placed-passed c parts n x p w o = record {
  numbered = o.numbered;
  size = o.size;
  lists = o.lists;
  held = λ y small wy. by y small wy (cases_eq y x);
  pairs = o.pairs;
  of_part = o.of_part;
  are_wanted = o.are_wanted;
  short = λ k. omega (arith, o.short k);
}
  where
    by : (y : ℕ) → y < x + 1 → is_wanted c parts n y ≡ true → (y ≡ x) ⊎ (y ≢ x) → IsListed parts p y
    by y small wy (inr ne) = o.held y (omega arith) wy
    by y small wy (inl e) = let f : true ≡ false = sym wy ∙ (ap (is_wanted c parts n) e ∙ w) in cc

-- If a pair is wanted, its part has a list of its own.
pub placed-some : (c : List ℕ) (parts : PartTable) (n x : ℕ) (p : Lists) → IsPlacedUpTo c parts n (n * n) p → x < n * n → is_wanted c parts n x ≡ true → HasOwnList p
placed-some c parts n x p o lt w = by (cases_eq (list_of p k) 0)
  where
    k : ℕ
    k = number_of parts x

    by : (list_of p k ≡ 0) ⊎ (list_of p k ≢ 0) → HasOwnList p
    by (inr ne) = omega (arith, o.lists.within k, ne)
    by (inl e) =
        let none : row_of p k ≡ [] = ap (λ (i : ℕ). get_or p.members i []) e ∙ o.lists.none in
        absurd (omega (arith, (o.held x lt w).within, ap length none))
