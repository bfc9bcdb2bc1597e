-- The list of the doubles that are reached from the diagonal, numbered by their parts, holds.
use Rattle.std.proofs.Common.{◌≡◌, ◌≢◌, ◌∙◌, ℕ, zero, suc, ◌+◌, ◌*◌, ◌/◌, ◌%◌, ◌<◌, ◌≤◌, ◌⊎◌, inl, inr, IsTrue, List, [], ◌∷◌, ◌++◌, length, take, get_or, Option, Some, is_some, refl, sym, ap, ap₂, subst, arith, div-add-mod'}
use Rattle.std.specs.Option.{option_map_or}
use Rattle.std.proofs.lemmas.Bool.{cases_lt}
use Rattle.std.proofs.lemmas.List.{take_more}
use Rattle.std.proofs.lemmas.Nat.{div-mul-add, mod-mul-add, div_below, mod_below}
use Rattle.rl_graph.specs.Parts.{PartTable, IsParts, number_of}
use Rattle.rl_graph.specs.Paths.{Has, Each, Pairs, IsBounded}
use Rattle.rl_graph.specs.Product.{pair_moves}
use Rattle.rl_graph.specs.Twins.{HasNoTwin}
use Rattle.rl_graph.proofs.PathLaws.{Reaches-self, Reaches-move, Reaches-trans}
use Rattle.rl_graph.proofs.Sums.{each-has, Each-has, Has-map, has-map, Has-at, Has-push, Has-left, Has-last}
use Rattle.rl_degree.specs.FallingNumbers.{IsDoubles}
use Rattle.rl_numbers.specs.declared.double.Double.{Double}
use Rattle.rl_numbers.specs.Closed.{AreClosedDoubles}
use Rattle.rl_numbers.specs.internal.Diagonal.{IsDiagonalUpTo, double_of, doubles_in}
use Rattle.rl_numbers.specs.Doubled.{double_at, is_double, double_number, OnceEach, IsInside, AreDoubles}
use Rattle.rl_numbers.specs.Reached.{IsReached, IsReach}
use Rattle.rl_numbers.proofs.DoubleLaws.{at-there, at-once}
use Rattle.rl_numbers.proofs.DoubleNumbers.{numbered_doubles, has-pair}
use Rattle.rl_numbers.proofs.IndexLaws.{some_of}

module _ (parts : PartTable) (n : ℕ) where
  same-number : (k m : ℕ) → k / n ≡ m / n → k % n ≡ m % n → k ≡ m
  same-number k m e f = sym (div-add-mod' k n) ∙ (ap₂ (λ (a b : ℕ). a * n + b) e f ∙ div-add-mod' m n)

  once-listed : (ks : List ℕ) → Pairs (λ x y. x ≢ y) ks → OnceEach (doubles_in parts n ks)
  once-listed [] once = tt
  once-listed (k ∷ ks) once = (each-has (λ (d : Double). k / n ≡ d.p → k % n ≡ d.q → ⊥) (doubles_in parts n ks) apart, once-listed ks once.1)
    where
      apart : (d : Double) → Has d (doubles_in parts n ks) → k / n ≡ d.p → k % n ≡ d.q → ⊥
      apart d h a b =
          let m = has-map (double_of parts n) d ks h in
          Each-has (λ (y : ℕ). k ≢ y) m.0 ks once.0 m.1 (same-number k m.0 (a ∙ ap (λ (x : Double). x.p) m.2) (b ∙ ap (λ (x : Double). x.q) m.2))

module _ (next : ℕ → ℕ → List ℕ) (n k : ℕ) (starts keys : List ℕ) (parts : PartTable) (b : IsBounded next n k) (none : HasNoTwin next) (diagonal : IsDiagonalUpTo n n starts)
    (reach : IsReach (pair_moves next n) starts keys) (inside : Each (λ x. x < n * n) keys) (right : IsParts (pair_moves next n) (n * n) parts) where
  abbrev l : List Double
  l = doubles_in parts n keys

  all-once : OnceEach l
  all-once = once-listed parts n keys reach.once

  some-states : (m : ℕ) → m < n * n → 0 < n
  some-states m lt = by n lt
    where
      by : (c : ℕ) → m < c * c → 0 < c
      by zero h = absurd (omega arith)
      by (suc c) h = omega arith

  -- The states of a key.
  key-in : (m : ℕ) → Has m keys → (m / n < n) × (m % n < n)
  key-in m h =
      let lt = Each-has (λ (x : ℕ). x < n * n) m keys inside h in
      let w = some-states m lt in
      (div_below m n n w lt, mod_below m n w)

  held : (p q : ℕ) → p < n → q < n → Has (p * n + q) keys → double_at l p q ≡ Some (number_of parts (p * n + q))
  held p q lp lq h =
      let m = p * n + q in
      let e = at-once l (double_of parts n m) all-once (Has-map (double_of parts n) m keys h) in
      ap₂ (λ (x y : ℕ). double_at l x y) (sym (div-mul-add p n q lq)) (sym (mod-mul-add p n q lq)) ∙ e

  found : (p q : ℕ) → IsTrue (is_double l p q) → (p < n) × (q < n) × Has (p * n + q) keys
  found p q h =
      let s = some_of (double_at l p q) h in
      let d = at-there l p q s.0 s.1 in
      let m = has-map (double_of parts n) d.0 keys d.1 in
      let ep : m.0 / n ≡ p = sym (ap (λ (x : Double). x.p) m.2) ∙ d.2 in
      let eq : m.0 % n ≡ q = sym (ap (λ (x : Double). x.q) m.2) ∙ d.3 in
      let in-range = key-in m.0 m.1 in (
        subst (λ (x : ℕ). x < n) ep in-range.0,
        subst (λ (x : ℕ). x < n) eq in-range.1,
        subst (λ (x : ℕ). Has x keys) (sym (div-add-mod' m.0 n) ∙ ap₂ (λ (x y : ℕ). x * n + y) ep eq) m.1,
      )

  number : (p q : ℕ) → IsTrue (is_double l p q) → double_number l p q ≡ number_of parts (p * n + q)
  number p q h = let f = found p q h in ap (λ (o : Option ℕ). option_map_or (λ (x : ℕ). x) o 0) (held p q f.0 f.1 f.2)

  there : (p q : ℕ) → p < n → q < n → IsReached (pair_moves next n) starts (p * n + q) → IsTrue (is_double l p q)
  there p q lp lq r = ap is_some (held p q lp lq (reach.whole (p * n + q) r))

  closed-doubles : AreClosedDoubles next n (is_double l)
  closed-doubles = record { equal = equal; closed = closed; inside = λ p q h. let f = found p q h in (f.0, f.1) }
    where
      equal : (r : ℕ) → r < n → IsTrue (is_double l r r)
      equal r lt = there r r lt lt (r * n + r, diagonal.whole r lt, Reaches-self (pair_moves next n) (r * n + r))

      closed : (p q c x y : ℕ) → IsTrue (is_double l p q) → Has x (next p c) → Has y (next q c) → IsTrue (is_double l x y)
      closed p q c x y h hx hy =
          let f = found p q h in
          let r = Each-has (IsReached (pair_moves next n) starts) (p * n + q) keys reach.sound f.2 in
          there x y (b.targets p c x hx) (b.targets q c y hy)
          (r.0, r.1, Reaches-trans (pair_moves next n) r.0 (p * n + q) (x * n + y) r.2 (Reaches-move (pair_moves next n) (p * n + q) (x * n + y) c (has-pair next n p q c x y f.1 hx hy)))

  numbers : IsDoubles next n (is_double l) (double_number l)
  numbers = record {
    equal = d.equal;
    closed = d.closed;
    never_rises = λ p q c x y h hx hy. omega (arith, number p q h, number x y (d.closed p q c x y h hx hy), d.never_rises p q c x y h hx hy);
    falls = λ r c i j x y lt ne ei ej. omega (arith, number r r (d.equal r lt), number x y (d.closed r r c x y (d.equal r lt) (Has-at (next r c) i x ei) (Has-at (next r c) j y ej)), d.falls r c i j x y lt ne ei ej);
  }
    where
      d : IsDoubles next n (is_double l) (λ p q. number_of parts (p * n + q))
      d = numbered_doubles next n k parts (is_double l) b none right closed-doubles

  pub listed_doubles : AreDoubles next n l
  listed_doubles = record { once = all-once; inside = each-has (IsInside n) l ins; numbers = numbers }
    where
      ins : (d : Double) → Has d l → IsInside n d
      ins d h =
          let m = has-map (double_of parts n) d keys h in
          subst (IsInside n) (sym m.2) (key-in m.0 m.1)

pub diagonal-push : (n r x : ℕ) (old new : List ℕ) → r < n → x ≡ r * n + r → new ≡ old ++ x ∷ [] → IsDiagonalUpTo n r old → IsDiagonalUpTo n (r + 1) new
diagonal-push n r x old new rin e more so = subst (IsDiagonalUpTo n (r + 1)) (sym more) (record { sound = sound; whole = whole })
  where
    sound : (s : ℕ) → Has s (old ++ x ∷ []) → (q : ℕ) × (q < n) × (s ≡ q * n + q)
    sound s h = by (Has-push s x old h)
      where
        by : Has s old ⊎ (s ≡ x) → (q : ℕ) × (q < n) × (s ≡ q * n + q)
        by (inl a) = so.sound s a
        by (inr a) = (r, rin, a ∙ e)

    whole : (q : ℕ) → q < r + 1 → Has (q * n + q) (old ++ x ∷ [])
    whole q lt = by (cases_lt q r)
      where
        by : (q < r) ⊎ (r ≤ q) → Has (q * n + q) (old ++ x ∷ [])
        by (inl a) = Has-left (q * n + q) old (x ∷ []) (so.whole q a)
        by (inr a) =
            let same : r ≡ q = omega (arith, a, lt) in
            subst (λ (z : ℕ). Has z (old ++ x ∷ [])) (e ∙ ap (λ (z : ℕ). z * n + z) same) (Has-last x old)

pub doubles-more : (parts : PartTable) (n i : ℕ) (keys : List ℕ) (x : ℕ) (d : Double) (old new : List Double) → i < length keys → x ≡ get_or keys i 0
    → d ≡ double_of parts n x → new ≡ old ++ d ∷ [] → old ≡ doubles_in parts n (take i keys) → new ≡ doubles_in parts n (take (i + 1) keys)
doubles-more parts n i keys x d old new lt ex ed more so =
    more ∙ (ap₂ (λ (l : List Double) (u : Double). l ++ u ∷ []) so (ed ∙ ap (double_of parts n) ex)
    ∙ (sym (map-push (take i keys) (get_or keys i 0)) ∙ ap (doubles_in parts n) (sym (take_more keys i 0 lt))))
  where
    map-push : (ks : List ℕ) (k : ℕ) → doubles_in parts n (ks ++ k ∷ []) ≡ doubles_in parts n ks ++ double_of parts n k ∷ []
    map-push [] k = refl
    map-push (y ∷ ks) k = ap (λ (l : List Double). double_of parts n y ∷ l) (map-push ks k)
