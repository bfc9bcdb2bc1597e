-- A tree without guards spans the same codes wherever they are in a text. So trees with the same language span the same
-- positions.
use Rattle.std.proofs.Common.{◌≡◌, ◌⊎◌, ℕ, zero, suc, ◌+◌, ◌-◌, ◌<◌, ◌≤◌, Bool, true, false, List, [], ◌∷◌, length, Option, Some, None, refl, sym, ap, ◌∙◌, subst, arith, IsTrue, slice_get, true≢false, get_or}
use Rattle.std.proofs.lemmas.Option.{slice_get_within, slice_get-get_or, get_or_from_slice_get}
use mathlib.Core.Logic.{inl, inr, ⊎_elim}
use Rattle.rl_ranges.specs.declared.universe.Universe.{Universe}
use Rattle.rl_ranges.specs.Text.{IsText}
use Rattle.rl_syntax.specs.declared.anchors.Trail.{Trail}
use Rattle.rl_syntax.specs.declared.anchors.Trail.TheVariants.{None as NoTrail, Dollar, End}
use Rattle.rl_syntax.specs.declared.re.Mode.{Mode}
use Rattle.rl_syntax.specs.declared.re.Mode.TheVariants.{Fullmatch, Match, Search}
use Rattle.rl_syntax.specs.Guards.{is_in, is_line_feed}
use Rattle.rl_syntax.specs.Tree.{Tree, empty, one, guard, both, either, many}
use Rattle.rl_syntax.specs.Modes.{is_code, trailed, sought, wrapped}
use Rattle.rl_syntax.specs.Language.{Rounds, stop, again, Spans}
use Rattle.rl_syntax.specs.SameSpans.{Unguarded, OneLanguage, SamePlaces}
use Rattle.rl_syntax.proofs.Stars.{spans_le}

-- A part of a text: `n` codes from a position on.
cut : ℕ → ℕ → List ℕ → List ℕ
cut i n [] = []
cut zero zero (c ∷ w) = []
cut zero (suc n) (c ∷ w) = c ∷ cut zero n w
cut (suc i) n (c ∷ w) = cut i n w

cut_at : (i n k : ℕ) (w : List ℕ) → k < n → slice_get (cut i n w) k ≡ slice_get w (i + k)
unfolding cut
cut_at i n k [] l = refl
cut_at zero zero k (c ∷ w) l = absurd (omega (arith, l))
cut_at zero (suc n) zero (c ∷ w) l = let e : 0 ≡ 0 + 0 = omega arith in ap (slice_get (c ∷ w)) e
cut_at zero (suc n) (suc k) (c ∷ w) l = let e : suc (0 + k) ≡ 0 + suc k = omega arith in cut_at zero n k w (omega (arith, l)) ∙ ap (slice_get (c ∷ w)) e
cut_at (suc i) n k (c ∷ w) l = let e : suc (i + k) ≡ suc i + k = omega arith in cut_at i n k w l ∙ ap (slice_get (c ∷ w)) e

cut_length : (i n : ℕ) (w : List ℕ) → i + n ≤ length w → length (cut i n w) ≡ n
unfolding cut
cut_length i n [] l = omega (arith, l)
cut_length zero zero (c ∷ w) l = refl
cut_length zero (suc n) (c ∷ w) l = ap suc (cut_length zero n w (omega (arith, l)))
cut_length (suc i) n (c ∷ w) l = cut_length i n w (omega (arith, l))

cut_none : (i : ℕ) (w : List ℕ) → length (cut i 0 w) ≡ 0
unfolding cut
cut_none i [] = refl
cut_none zero (c ∷ w) = refl
cut_none (suc i) (c ∷ w) = cut_none i w

-- What is spanned is within the text.
rounds_in : {R : ℕ → ℕ → Type 0} (n : ℕ) → ((i j : ℕ) → R i j → (i ≡ j) ⊎ (j ≤ n)) → {i j : ℕ} → Rounds R i j → (i ≡ j) ⊎ (j ≤ n)
rounds_in n f stop = inl refl
rounds_in n f (again {i = i} {k = k} {j = j} l r h) =
    ⊎_elim (λ (e : k ≡ j). ⊎_elim (λ (d : i ≡ k). absurd (omega (arith, l, d))) (λ (d : k ≤ n). inr (omega (arith, e, d))) (f i k r)) (λ (d : j ≤ n). inr d) (rounds_in n f h)

spans_in : (t : Tree) (w : List ℕ) (i j : ℕ) → Spans t w i j → (i ≡ j) ⊎ (j ≤ length w)
unfolding is_in
spans_in empty w i j h = inl h
spans_in (one set) w i j (x, e) = inr (go (slice_get w i) refl x)
  where
    go : (o : Option ℕ) → slice_get w i ≡ o → IsTrue (is_in set o) → j ≤ length w
    go None q z = absurd (true≢false (sym z))
    go (Some c) q z = omega (arith, e, slice_get_within w i c q)
spans_in (guard g) w i j (x, e) = inl e
spans_in (both e f) w i j (k, x, z) =
    ⊎_elim (λ (p : k ≡ j). ⊎_elim (λ (q : i ≡ k). inl (q ∙ p)) (λ (q : k ≤ length w). inr (omega (arith, p, q))) (spans_in e w i k x)) (λ (p : j ≤ length w). inr p) (spans_in f w k j z)
spans_in (either e f) w i j (inl x) = spans_in e w i j x
spans_in (either e f) w i j (inr x) = spans_in f w i j x
spans_in (many e greedy) w i j h = rounds_in (length w) (spans_in e w) h

module _ (w v : List ℕ) (i d n : ℕ) (same : (k : ℕ) → k < n → slice_get w (i + k) ≡ slice_get v (d + k)) where
  rounds_move : {R S : ℕ → ℕ → Type 0} → ((a b : ℕ) → R a b → a ≤ b) → ((a b : ℕ) → a ≤ b → b ≤ n → R (i + a) (i + b) → S (d + a) (d + b)) → {x z : ℕ} → Rounds R x z → (a b : ℕ) → x ≡ i + a → z ≡ i + b → b ≤ n → Rounds S (d + a) (d + b)
  rounds_move {R} {S} fwd f (stop {i = x}) a b p q l = let e : d + a ≡ d + b = omega (arith, p, q) in subst (λ m. Rounds S (d + a) m) e stop
  rounds_move {R} {S} fwd f (again {i = x} {k = k} {j = z} lt r h) a b p q l =
      let c = k - i in
      let e : k ≡ i + c = omega (arith, lt, p) in
      let le : k ≤ z = rounds_fwd h in
      again (omega (arith, lt, p, e)) (f a c (omega (arith, lt, p, e)) (omega (arith, le, q, l, e)) (subst (λ m. R m (i + c)) p (subst (λ m. R x m) e r))) (rounds_move fwd f h c b e q l)
    where
      rounds_fwd : {x z : ℕ} → Rounds R x z → x ≤ z
      rounds_fwd stop = omega arith
      rounds_fwd (again l r h) = omega (arith, l, rounds_fwd h)

  spans_move : (t : Tree) → Unguarded t → (a b : ℕ) → a ≤ b → b ≤ n → Spans t w (i + a) (i + b) → Spans t v (d + a) (d + b)
  spans_move empty u a b l m h = omega (arith, h)
  spans_move (one set) u a b l m (x, e) = (subst (λ o. IsTrue (is_in set o)) (same a (omega (arith, e, m))) x, omega (arith, e))
  spans_move (guard g) u a b l m h = absurd u
  spans_move (both e f) (u, s) a b l m (k, x, z) =
      let c = k - i in
      let le = spans_le e w (i + a) k x in
      let le2 = spans_le f w k (i + b) z in
      let q : k ≡ i + c = omega (arith, le) in
      (d + c, spans_move e u a c (omega (arith, le, q)) (omega (arith, le2, q, m)) (subst (Spans e w (i + a)) q x), spans_move f s c b (omega (arith, le2, q)) m (subst (λ y. Spans f w y (i + b)) q z))
  spans_move (either e f) (u, s) a b l m (inl x) = inl (spans_move e u a b l m x)
  spans_move (either e f) (u, s) a b l m (inr x) = inr (spans_move f s a b l m x)
  spans_move (many e greedy) u a b l m h = rounds_move (spans_le e w) (spans_move e u) h a b refl refl m

cut_short : (i n : ℕ) (w : List ℕ) → length (cut i n w) ≤ n
unfolding cut
cut_short i n [] = omega arith
cut_short zero zero (c ∷ w) = omega arith
cut_short zero (suc n) (c ∷ w) = omega (arith, cut_short zero n w)
cut_short (suc i) n (c ∷ w) = cut_short i n w

text_cut : (u : Universe) (i n : ℕ) (w : List ℕ) → IsText u w → IsText u (cut i n w)
text_cut u i n w h k d l =
    let s = slice_get-get_or (cut i n w) k d l in
    let e = sym (cut_at i n k w (omega (arith, l, cut_short i n w))) ∙ s in
    let q = slice_get_within w (i + k) (get_or (cut i n w) k d) e in
    let g = get_or_from_slice_get w (i + k) (get_or (cut i n w) k d) d e in
    omega (arith, h (i + k) d q, g)

one_way : (u : Universe) (s t : Tree) → Unguarded s → Unguarded t → ((w : List ℕ) → IsText u w → Spans s w 0 (length w) → Spans t w 0 (length w)) → (w : List ℕ) → IsText u w → (i j : ℕ) → Spans s w i j → Spans t w i j
one_way u s t us ut f w is i j h =
    let n = j - i in
    let v = cut i n w in
    let le = spans_le s w i j h in
    let size : length v ≡ n = ⊎_elim (λ (e : i ≡ j). omega (arith, cut_short i n w, e)) (λ (e : j ≤ length w). cut_length i n w (omega (arith, le, e))) (spans_in s w i j h) in
    let e0 : i ≡ i + 0 = omega arith in
    let en : j ≡ i + n = omega (arith, le) in
    let there : Spans s v (0 + 0) (0 + n) = spans_move w v i 0 n (λ k l. let z : k ≡ 0 + k = omega arith in sym (cut_at i n k w l) ∙ ap (slice_get v) z) s us 0 n (omega arith) (omega arith) (subst (λ m. Spans s w m (i + n)) e0 (subst (Spans s w i) en h)) in
    let zero_n : 0 + n ≡ length v = omega (arith, size) in
    let in_t : Spans t v 0 (length v) = f v (text_cut u i n w is) (subst (Spans s v 0) zero_n there) in
    let back : Spans t w (i + 0) (i + n) = spans_move v w 0 i n (λ k l. let z : 0 + k ≡ k = omega arith in ap (slice_get v) z ∙ cut_at i n k w l) t ut 0 n (omega arith) (omega arith) (subst (Spans t v (0 + 0)) (sym zero_n) in_t) in
    subst (λ m. Spans t w m j) (sym e0) (subst (Spans t w (i + 0)) (sym en) back)

-- Trees without guards that match the same texts span the same positions.
pub same_places : (u : Universe) (s t : Tree) → Unguarded s → Unguarded t → OneLanguage u s t → SamePlaces u s t
same_places u s t us ut h w is i j = (one_way u s t us ut (λ v x. (h v x).0) w is i j, one_way u t s ut us (λ v x. (h v x).1) w is i j)

both_places : (u : Universe) (a b e f : Tree) → SamePlaces u a b → SamePlaces u e f → SamePlaces u (both a e) (both b f)
both_places u a b e f p q w is i j = (λ (k, x, y). (k, (p w is i k).0 x, (q w is k j).0 y), λ (k, x, y). (k, (p w is i k).1 x, (q w is k j).1 y))

trail_places : (u : Universe) (trail : Trail) (s t : Tree) → SamePlaces u s t → SamePlaces u (trailed trail s) (trailed trail t)
trail_places u NoTrail s t h = h
trail_places u Dollar s t h = let last = either empty (one is_line_feed) in both_places u s t last last h (λ w is i j. (λ x. x, λ x. x))
trail_places u End s t h = h

sought_places : (u z : Universe) (leading : Bool) (s t : Tree) → SamePlaces u s t → SamePlaces u (sought z leading s) (sought z leading t)
sought_places u z true s t h = h
sought_places u z false s t h = let any = many (one (is_code z)) false in both_places u any any s t (λ w is i j. (λ x. x, λ x. x)) h

-- They do so in every mode.
pub wrapped_places : (u z : Universe) (mode : Mode) (leading : Bool) (trail : Trail) (s t : Tree) → SamePlaces u s t → SamePlaces u (wrapped mode z leading trail s) (wrapped mode z leading trail t)
wrapped_places u z Fullmatch leading trail s t h = h
wrapped_places u z Match leading trail s t h = trail_places u trail s t h
wrapped_places u z Search leading trail s t h = sought_places u z leading (trailed trail s) (trailed trail t) (trail_places u trail s t h)
