-- An index of triples, one triple after another.
use Rattle.std.proofs.Common.{◌≡◌, ◌∙◌, ℕ, ◌+◌, ◌<◌, inl, inr, Bool, true, false, cond, ◌&&◌, nat_eq, eqb-true, eq-eqb, List, [], ◌∷◌, ◌++◌, length, get_or, take, drop, Option, Some, None, is_some, refl, sym, ap, subst}
use Rattle.std.proofs.lemmas.Bool.{and_parts, and_from}
use Rattle.std.proofs.lemmas.List.{take_more, drop_more, take-append-drop}
use Rattle.std.specs.HashMap.{get}
use Rattle.indexmap.specs.IndexMap.{IndexMap}
use Rattle.rl_graph.specs.Paths.{Has}
use Rattle.rl_graph.proofs.Sums.{Each-has, Pairs-push}
use Rattle.rl_numbers.specs.declared.triple.Triple.{Triple}
use Rattle.rl_numbers.specs.declared.index.Key.{Key}
use Rattle.rl_numbers.specs.contracts.index.KeyPartialEq.TheImpl as key
use Rattle.rl_numbers.specs.Numbered.{triple_at, OnceEach}
use Rattle.rl_numbers.specs.Index.{number_in, IsIndex}

abbrev pub no_triple : Triple
no_triple = record { p = 0; q = 0; r = 0; number = 0 }

-- Whether a triple is one of three states.
abbrev pub is_at : Triple → ℕ → ℕ → ℕ → Bool
is_at t p q r = nat_eq t.p p && (nat_eq t.q q && nat_eq t.r r)

pub is_at-same : (t : Triple) (p q r : ℕ) → is_at t p q r ≡ true → (t.p ≡ p) × (t.q ≡ q) × (t.r ≡ r)
is_at-same t p q r h =
    let a = and_parts (nat_eq t.p p) (nat_eq t.q q && nat_eq t.r r) h in
    let b = and_parts (nat_eq t.q q) (nat_eq t.r r) a.1 in
    (eqb-true t.p p a.0, eqb-true t.q q b.0, eqb-true t.r r b.1)

pub same-is_at : (t : Triple) (p q r : ℕ) → t.p ≡ p → t.q ≡ q → t.r ≡ r → is_at t p q r ≡ true
same-is_at t p q r a b c = and_from (nat_eq t.p p) (nat_eq t.q q && nat_eq t.r r) (eq-eqb t.p p a) (and_from (nat_eq t.q q) (nat_eq t.r r) (eq-eqb t.q q b) (eq-eqb t.r r c))

-- What is found is the number of a triple of the list.
pub at-there : (l : List Triple) (p q r k : ℕ) → triple_at l p q r ≡ Some k → (t : Triple) × Has t l × (t.p ≡ p) × (t.q ≡ q) × (t.r ≡ r) × (t.number ≡ k)
at-there [] p q r k h = cc
at-there (t ∷ l) p q r k h = by (is_at t p q r) refl h (at-there l p q r k)
  where
    by : (b : Bool) → is_at t p q r ≡ b → cond b (Some t.number) (triple_at l p q r) ≡ Some k → (triple_at l p q r ≡ Some k → (u : Triple) × Has u l × (u.p ≡ p) × (u.q ≡ q) × (u.r ≡ r) × (u.number ≡ k)) → (u : Triple) × Has u (t ∷ l) × (u.p ≡ p) × (u.q ≡ q) × (u.r ≡ r) × (u.number ≡ k)
    by true e h rest = let s = is_at-same t p q r e in (t, inl refl, s.0, s.1, s.2, cc)
    by false e h rest = let u = rest h in (u.0, inr u.1, u.2, u.3, u.4, u.5)

-- A triple of the list is found, if not with its own number.
pub at-held : (l : List Triple) (t : Triple) → Has t l → (k : ℕ) × (triple_at l t.p t.q t.r ≡ Some k)
at-held [] t h = absurd h
at-held (u ∷ l) t (inl e) = (u.number, ap (λ (b : Bool). cond b (Some u.number) (triple_at l t.p t.q t.r)) (same-is_at u t.p t.q t.r (ap (λ (x : Triple). x.p) (sym e)) (ap (λ (x : Triple). x.q) (sym e)) (ap (λ (x : Triple). x.r) (sym e))))
at-held (u ∷ l) t (inr h) = by (is_at u t.p t.q t.r) (at-held l t h)
  where
    by : (b : Bool) → (k : ℕ) × (triple_at l t.p t.q t.r ≡ Some k) → (k : ℕ) × (cond b (Some u.number) (triple_at l t.p t.q t.r) ≡ Some k)
    by true r = (u.number, refl)
    by false r = r

-- If no triple occurs twice, each is found with its own number.
pub at-once : (l : List Triple) (t : Triple) → OnceEach l → Has t l → triple_at l t.p t.q t.r ≡ Some t.number
at-once [] t once h = absurd h
at-once (u ∷ l) t once (inl e) =
    ap (λ (b : Bool). cond b (Some u.number) (triple_at l t.p t.q t.r)) (same-is_at u t.p t.q t.r (ap (λ (x : Triple). x.p) (sym e)) (ap (λ (x : Triple). x.q) (sym e)) (ap (λ (x : Triple). x.r) (sym e)))
    ∙ ap (λ (x : Triple). Some x.number) (sym e)
at-once (u ∷ l) t once (inr h) = by (is_at u t.p t.q t.r) refl (at-once l t once.1 h)
  where
    by : (b : Bool) → is_at u t.p t.q t.r ≡ b → triple_at l t.p t.q t.r ≡ Some t.number → cond b (Some u.number) (triple_at l t.p t.q t.r) ≡ Some t.number
    by true e rest = let s = is_at-same u t.p t.q t.r e in absurd (Each-has (λ (x : Triple). u.p ≡ x.p → u.q ≡ x.q → u.r ≡ x.r → ⊥) t l once.0 h s.0 s.1 s.2)
    by false e rest = rest

-- One more triple.
at-push : (l : List Triple) (t : Triple) (p q r : ℕ) → triple_at l t.p t.q t.r ≡ None → triple_at (l ++ t ∷ []) p q r ≡ cond (is_at t p q r) (Some t.number) (triple_at l p q r)
at-push [] t p q r none = refl
at-push (u ∷ l) t p q r none = by (is_at u t.p t.q t.r) refl none (at-push l t p q r)
  where
    both : (b : Bool) (c : Bool) → is_at u p q r ≡ b → is_at t p q r ≡ c → (is_at u t.p t.q t.r ≡ true → ⊥) → triple_at (l ++ t ∷ []) p q r ≡ cond c (Some t.number) (triple_at l p q r) → cond b (Some u.number) (triple_at (l ++ t ∷ []) p q r) ≡ cond c (Some t.number) (cond b (Some u.number) (triple_at l p q r))
    both false c e d ne rest = rest
    both true false e d ne rest = refl
    both true true e d ne rest =
        let s = is_at-same u p q r e in
        let z = is_at-same t p q r d in
        absurd (ne (same-is_at u t.p t.q t.r (s.0 ∙ sym z.0) (s.1 ∙ sym z.1) (s.2 ∙ sym z.2)))

    not-true : (b : Bool) → b ≡ false → b ≡ true → ⊥
    not-true true e d = cc
    not-true false e d = cc

    by : (b : Bool) → is_at u t.p t.q t.r ≡ b → cond b (Some u.number) (triple_at l t.p t.q t.r) ≡ None → (triple_at l t.p t.q t.r ≡ None → triple_at (l ++ t ∷ []) p q r ≡ cond (is_at t p q r) (Some t.number) (triple_at l p q r))
        → cond (is_at u p q r) (Some u.number) (triple_at (l ++ t ∷ []) p q r) ≡ cond (is_at t p q r) (Some t.number) (cond (is_at u p q r) (Some u.number) (triple_at l p q r))
    by true e h rest = cc
    by false e h rest = both (is_at u p q r) (is_at t p q r) refl refl (not-true (is_at u t.p t.q t.r) e) (rest h)

front : (l : List Triple) (i : ℕ) (t : Triple) → i < length l → t ≡ get_or l i no_triple → take (i + 1) l ≡ take i l ++ t ∷ []
front l i t lt e = take_more l i no_triple lt ∙ ap (λ (u : Triple). take i l ++ u ∷ []) (sym e)

module _ {S : Type 0} (m n : IndexMap Key ℕ S) (l : List Triple) (i : ℕ) (t : Triple) (lt : i < length l) (is : t ≡ get_or l i no_triple) where
  pub index-more : (k : Key) → k.p ≡ t.p → k.q ≡ t.q → k.r ≡ t.r → number_in m k.p k.q k.r ≡ None → IsIndex (take i l) m
      → ((q : Key) → get key.eq-value.it n q ≡ cond (key.eq-value.it k q) (Some t.number) (get key.eq-value.it m q)) → IsIndex (take (i + 1) l) n
  index-more k a b c none index puts p q r =
      let here : Key = record { p = p; q = q; r = r } in
      let at_t : triple_at (take i l) t.p t.q t.r ≡ None = sym (index t.p t.q t.r) ∙ (sym (λ j. number_in m (a j) (b j) (c j)) ∙ none) in
      puts here
      ∙ ((λ j. cond (nat_eq (a j) p && (nat_eq (b j) q && nat_eq (c j) r)) (Some t.number) (index p q r j))
      ∙ (sym (at-push (take i l) t p q r at_t) ∙ ap (λ (x : List Triple). triple_at x p q r) (sym (front l i t lt is))))

  pub once-more : triple_at (take i l) t.p t.q t.r ≡ None → OnceEach (take i l) → OnceEach (take (i + 1) l)
  once-more none once =
      subst OnceEach (sym (front l i t lt is)) (Pairs-push (λ (x u : Triple). x.p ≡ u.p → x.q ≡ u.q → x.r ≡ u.r → ⊥) (take i l) t once apart)
    where
      apart : (x : Triple) → Has x (take i l) → x.p ≡ t.p → x.q ≡ t.q → x.r ≡ t.r → ⊥
      apart x h a b c =
          let k = at-held (take i l) x h in
          let both : None ≡ Some k.0 = sym none ∙ ((λ j. triple_at (take i l) (sym a j) (sym b j) (sym c j)) ∙ k.1) in
          cc

  pub not-once : (k : ℕ) → triple_at (take i l) t.p t.q t.r ≡ Some k → OnceEach l → ⊥
  not-once k found once =
      let u = at-there (take i l) t.p t.q t.r k found in
      pairs-split (take i l) (drop (i + 1) l) u.0 (subst OnceEach parts once) u.1 u.2 u.3 u.4
    where
      parts : l ≡ take i l ++ t ∷ drop (i + 1) l
      parts = sym (take-append-drop i l) ∙ ap (λ (x : List Triple). take i l ++ x) (drop_more l i no_triple lt ∙ ap (λ (u : Triple). u ∷ drop (i + 1) l) (sym is))

      pairs-split : (xs ys : List Triple) (x : Triple) → OnceEach (xs ++ t ∷ ys) → Has x xs → x.p ≡ t.p → x.q ≡ t.q → x.r ≡ t.r → ⊥
      pairs-split [] ys x p h = absurd h
      pairs-split (z ∷ xs) ys x p (inl e) = λ a b c. Each-has (λ (u : Triple). z.p ≡ u.p → z.q ≡ u.q → z.r ≡ u.r → ⊥) t (xs ++ t ∷ ys) p.0 (last xs ys) (ap (λ (v : Triple). v.p) (sym e) ∙ a) (ap (λ (v : Triple). v.q) (sym e) ∙ b) (ap (λ (v : Triple). v.r) (sym e) ∙ c)
        where
          last : (xs ys : List Triple) → Has t (xs ++ t ∷ ys)
          last [] ys = inl refl
          last (z ∷ xs) ys = inr (last xs ys)
      pairs-split (z ∷ xs) ys x p (inr h) = pairs-split xs ys x p.1 h

pub none_of : (o : Option ℕ) → is_some o ≡ false → o ≡ None
none_of None h = refl
none_of (Some k) h = cc

pub some_of : (o : Option ℕ) → is_some o ≡ true → (k : ℕ) × (o ≡ Some k)
some_of None h = cc
some_of (Some k) h = (k, refl)
