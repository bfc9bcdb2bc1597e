-- What the loops over the marks and the stack keep.
use Rattle.std.proofs.Common.{◌≡◌, ◌≢◌, ℕ, suc, ◌+◌, ◌-◌, ◌<◌, ◌≤◌, ◌⊎◌, inl, inr, leb, ltb, le-leb, lt-ltb, le-ltb, List, [], ◌∷◌, ◌++◌, length, get_or, set, slice_get, option_to_list, Option, Some, None, refl, sym, ◌∙◌, ap, arith, append_assoc, append-nil, get_or-set_same, get_or-set_other}
use Rattle.std.proofs.lemmas.Bool.{cases_eq, cases_lt, lt-leb, and_from, and_left, and_right}
use Rattle.std.proofs.lemmas.List.{length_push, get_or_past}
use Rattle.rl_graph.specs.declared.parts.SearchPlace.{SearchPlace}
use Rattle.rl_graph.specs.declared.parts.SearchPlace.TheVariants.{Unseen, Open, Done}
use Rattle.rl_graph.specs.Paths.{Has}
use Rattle.rl_graph.specs.internal.Search.{SearchState, place_of, closed_place, closed_below, IsListed}
use Rattle.rl_graph.proofs.SearchLaws.{unseen-open}

-- Marks taken off

pub last-get : {A : Type 0} (ms : List A) (x : A) → slice_get (ms ++ x ∷ []) (length (ms ++ x ∷ []) - 1) ≡ Some x
last-get [] x = refl
last-get (a ∷ ms) x =
    let e : length (a ∷ ms ++ x ∷ []) - 1 ≡ suc (length (ms ++ x ∷ []) - 1) = omega (arith, length_push ms x) in
    ap (slice_get (a ∷ ms ++ x ∷ [])) e ∙ last-get ms x

abbrev pub IsOff : ℕ → List ℕ → List ℕ → Type 0
IsOff depth old new = (off : List ℕ) × (old ≡ new ++ off) × ((x : ℕ) → Has x off → depth < x)

pub off-more : (depth mark : ℕ) (start old new : List ℕ) (o : Option ℕ) → IsOff depth start old → old ≡ new ++ option_to_list o → slice_get old (length old - 1) ≡ Some mark → depth < mark → IsOff depth start new
off-more depth mark start old new None h e g lt = (h.0, h.1 ∙ ap (λ (z : List ℕ). z ++ h.0) (e ∙ append-nil new), h.2)
off-more depth mark start old new (Some y) h e g lt =
    (y ∷ h.0, h.1 ∙ (ap (λ (z : List ℕ). z ++ h.0) e ∙ append_assoc new (y ∷ []) h.0), above)
  where
    same : y ≡ mark
    same = let k : Some y ≡ Some mark = sym (last-get new y) ∙ (ap (λ (z : List ℕ). slice_get z (length z - 1)) (sym e) ∙ g) in cc

    above : (x : ℕ) → Has x (y ∷ h.0) → depth < x
    above x (inl i) = omega (arith, i, same)
    above x (inr i) = h.2 x i

-- States of the stack closed one after another

below-in : (from to c j : ℕ) → from ≤ j → j < to → closed_below from to c (Open j) ≡ Done c
below-in from to c j h k = rw (and_from (leb from j) (ltb j to) (le-leb from j h) (lt-ltb j to k)) refl

below-low : (from to c j : ℕ) → j < from → closed_below from to c (Open j) ≡ Open j
below-low from to c j h = rw (and_left (leb from j) (ltb j to) (lt-leb from j h)) refl

below-high : (from to c j : ℕ) → to ≤ j → closed_below from to c (Open j) ≡ Open j
below-high from to c j h = rw (and_right (leb from j) (ltb j to) (le-ltb j to h)) refl

below-same : (from to c j : ℕ) → j ≢ to → closed_below from (to + 1) c (Open j) ≡ closed_below from to c (Open j)
below-same from to c j ne = by (cases_lt j from) (cases_lt j to)
  where
    by : (j < from) ⊎ (from ≤ j) → (j < to) ⊎ (to ≤ j) → closed_below from (to + 1) c (Open j) ≡ closed_below from to c (Open j)
    by (inl h) k = below-low from (to + 1) c j h ∙ sym (below-low from to c j h)
    by (inr h) (inl k) = below-in from (to + 1) c j h (omega arith) ∙ sym (below-in from to c j h k)
    by (inr h) (inr k) = below-high from (to + 1) c j (omega arith) ∙ sym (below-high from to c j k)

pub below-more : (s : SearchState) → IsListed s → (places : List SearchPlace) (from to c : ℕ) → from ≤ to → to < length s.open_states → length places ≡ length s.places → ((q : ℕ) → get_or places q Unseen ≡ closed_below from to c (place_of s q)) → (q : ℕ) → get_or (set places (get_or s.open_states to 0) (Done c)) q Unseen ≡ closed_below from (to + 1) c (place_of s q)
below-more s h places from to c le lt size old q = by (cases_eq q (get_or s.open_states to 0))
  where
    at : place_of s (get_or s.open_states to 0) ≡ Open to
    at = h.listed to lt

    fits : (x : ℕ) (p : SearchPlace) → get_or s.places x Unseen ≡ p → (Unseen ≡ p → ⊥) → x < length s.places
    fits x p e ne = in_or_out (cases_lt x (length s.places))
      where
        in_or_out : (x < length s.places) ⊎ (length s.places ≤ x) → x < length s.places
        in_or_out (inl i) = i
        in_or_out (inr i) = absurd (ne (sym (get_or_past s.places x Unseen i) ∙ e))

    other : (p : SearchPlace) → place_of s q ≡ p → q ≢ get_or s.open_states to 0 → closed_below from to c p ≡ closed_below from (to + 1) c p
    other Unseen e ne = refl
    other (Done d) e ne = refl
    other (Open j) e ne = sym (below-same from to c j (λ i. ne (sym (h.opened q j e).1 ∙ ap (λ z. get_or s.open_states z 0) i)))

    by : (q ≡ get_or s.open_states to 0) ⊎ (q ≢ get_or s.open_states to 0) → get_or (set places (get_or s.open_states to 0) (Done c)) q Unseen ≡ closed_below from (to + 1) c (place_of s q)
    by (inl e) =
        ap (λ z. get_or (set places (get_or s.open_states to 0) (Done c)) z Unseen) e
        ∙ (get_or-set_same places (get_or s.open_states to 0) (Done c) Unseen (omega (arith, size, fits (get_or s.open_states to 0) (Open to) at (unseen-open to)))
        ∙ sym (ap (λ z. closed_below from (to + 1) c (place_of s z)) e ∙ (ap (closed_below from (to + 1) c) at ∙ below-in from (to + 1) c to le (omega arith))))
    by (inr ne) = get_or-set_other places (get_or s.open_states to 0) q (Done c) Unseen ne ∙ (old q ∙ other (place_of s q) refl ne)

pub below-all : (s : SearchState) → IsListed s → (from to c : ℕ) → length s.open_states ≤ to → (q : ℕ) → closed_below from to c (place_of s q) ≡ closed_place from c (place_of s q)
below-all s h from to c le q = by (place_of s q) refl
  where
    at : (j : ℕ) → j < to → (j < from) ⊎ (from ≤ j) → closed_below from to c (Open j) ≡ closed_place from c (Open j)
    at j k (inl i) = below-low from to c j i ∙ sym (rw (lt-leb from j i) refl)
    at j k (inr i) = below-in from to c j i k ∙ sym (rw (le-leb from j i) refl)

    by : (p : SearchPlace) → place_of s q ≡ p → closed_below from to c p ≡ closed_place from c p
    by Unseen e = refl
    by (Done d) e = refl
    by (Open j) e = at j (omega (arith, (h.opened q j e).0)) (cases_lt j from)

pub listed-in : (s : SearchState) → IsListed s → (i : ℕ) → i < length s.open_states → get_or s.open_states i 0 < length s.places
listed-in s h i lt = by (cases_lt (get_or s.open_states i 0) (length s.places))
  where
    by : (get_or s.open_states i 0 < length s.places) ⊎ (length s.places ≤ get_or s.open_states i 0) → get_or s.open_states i 0 < length s.places
    by (inl h) = h
    by (inr k) = absurd (unseen-open i (sym (get_or_past s.places (get_or s.open_states i 0) Unseen k) ∙ h.listed i lt))
