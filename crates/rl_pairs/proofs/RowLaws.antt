-- Laws of rows of targets: their moves, and the numbers that are seen in them.
use Rattle.std.proofs.Common.{◌≡◌, ◌∙◌, ℕ, zero, suc, ◌+◌, ◌-◌, ◌*◌, ◌<◌, ◌≤◌, inl, inr, List, [], ◌∷◌, ◌++◌, length, take, get_or, max, Bool, true, false, cond, ltb, lt-ltb, le-ltb, refl, sym, ap, subst, arith, append-nil, append_assoc}
use Rattle.std.proofs.lemmas.Bool.{cond-true, cond-false}
use Rattle.std.proofs.lemmas.List.{get_or_push, get_or_append_left}
use Rattle.rl_graph.specs.Paths.{Has, Each}
use Rattle.rl_graph.proofs.Sums.{Has-left}
use Rattle.rl_prio.specs.Automaton.{Automaton}
use Rattle.rl_sets.specs.Live.{joined, IsLive}
use Rattle.rl_pairs.specs.declared.pair.Pair.{Pair}
use Rattle.rl_pairs.specs.LivePairs.{pairs_from}
use Rattle.rl_pairs.specs.PairGraph.{KeptLive, AreFirstSeen, seen_after}
use Rattle.rl_pairs.specs.internal.Finding.{next_in, flat, tried, set_for}

-- Numbers by first sight

pub AreFirstSeen-push : (m k : ℕ) (l : List ℕ) → AreFirstSeen m l → k ≤ seen_after m l → AreFirstSeen m (l ++ k ∷ [])
AreFirstSeen-push m k [] h le = (le, tt)
AreFirstSeen-push m k (j ∷ l) h le = (h.0, AreFirstSeen-push (max m (suc j)) k l h.1 le)

pub seen_after-append : (m : ℕ) (l r : List ℕ) → seen_after m (l ++ r) ≡ seen_after (seen_after m l) r
seen_after-append m [] r = refl
seen_after-append m (j ∷ l) r = seen_after-append (max m (suc j)) l r

pub AreFirstSeen-split : (m : ℕ) (l r : List ℕ) → AreFirstSeen m (l ++ r) → AreFirstSeen m l × AreFirstSeen (seen_after m l) r
AreFirstSeen-split m [] r h = (tt, h)
AreFirstSeen-split m (j ∷ l) r h = let p = AreFirstSeen-split (max m (suc j)) l r h.1 in ((h.0, p.0), p.1)

pub seen-old : (m k : ℕ) (l : List ℕ) → k < seen_after m l → seen_after m (l ++ k ∷ []) ≡ seen_after m l
seen-old m k l lt = seen_after-append m l (k ∷ []) ∙ omega arith

pub seen-new : (m k : ℕ) (l : List ℕ) → seen_after m l ≡ k → seen_after m (l ++ k ∷ []) ≡ k + 1
seen-new m k l e = seen_after-append m l (k ∷ []) ∙ omega arith

-- Rows one behind another

pub flat-append : (x y : List (List ℕ)) → flat (x ++ y) ≡ flat x ++ flat y
flat-append [] y = refl
flat-append (r ∷ x) y = ap (λ (l : List ℕ). r ++ l) (flat-append x y) ∙ sym (append_assoc r (flat x) (flat y))

flat-one : (r : List ℕ) → flat (r ∷ []) ≡ r
flat-one r = append-nil r

pub flat-push : (rows : List (List ℕ)) (r : List ℕ) → flat (rows ++ r ∷ []) ≡ flat rows ++ r
flat-push rows r = flat-append rows (r ∷ []) ∙ ap (λ (l : List ℕ). flat rows ++ l) (flat-one r)

pub flat-last : (rows : List (List ℕ)) (r : List ℕ) (k : ℕ) → flat (rows ++ (r ++ k ∷ []) ∷ []) ≡ flat (rows ++ r ∷ []) ++ k ∷ []
flat-last rows r k = flat-push rows (r ++ k ∷ []) ∙ sym (append_assoc (flat rows) r (k ∷ [])) ∙ ap (λ (l : List ℕ). l ++ k ∷ []) (sym (flat-push rows r))

pub flat-nil : (rows : List (List ℕ)) → flat (rows ++ [] ∷ []) ≡ flat rows
flat-nil rows = flat-push rows [] ∙ append-nil (flat rows)

-- Moves

pub next-at : (wide : ℕ) (rows : List (List ℕ)) (q l : ℕ) → l < wide → next_in wide rows q l ≡ get_or rows (q * wide + l) []
next-at wide rows q l lt = cond-true (ltb l wide) (get_or rows (q * wide + l) []) [] (lt-ltb l wide lt)

pub next-out : (wide : ℕ) (rows : List (List ℕ)) (q l : ℕ) → wide ≤ l → next_in wide rows q l ≡ []
next-out wide rows q l le = cond-false (ltb l wide) (get_or rows (q * wide + l) []) [] (le-ltb l wide le)

cond-mono : (b : Bool) (x : ℕ) (u v : List ℕ) → (Has x u → Has x v) → Has x (cond b u []) → Has x (cond b v [])
cond-mono true x u v f h = f h
cond-mono false x u v f h = h

last-mono : (x : ℕ) (r s : List ℕ) → ((y : ℕ) → Has y r → Has y s) → (rows : List (List ℕ)) (i : ℕ) → Has x (get_or (rows ++ r ∷ []) i []) → Has x (get_or (rows ++ s ∷ []) i [])
last-mono x r s f [] zero h = f x h
last-mono x r s f [] (suc i) h = h
last-mono x r s f (t ∷ rows) zero h = h
last-mono x r s f (t ∷ rows) (suc i) h = last-mono x r s f rows i h

push-nil : (rows : List (List ℕ)) (i : ℕ) → get_or (rows ++ [] ∷ []) i [] ≡ get_or rows i []
push-nil [] zero = refl
push-nil [] (suc i) = refl
push-nil (t ∷ rows) zero = refl
push-nil (t ∷ rows) (suc i) = push-nil rows i

module _ (wide : ℕ) (rows : List (List ℕ)) (q l x : ℕ) where
  -- A move stays when the last row grows.
  pub next-more : (r : List ℕ) (k : ℕ) → Has x (next_in wide (rows ++ r ∷ []) q l) → Has x (next_in wide (rows ++ (r ++ k ∷ []) ∷ []) q l)
  next-more r k h = cond-mono (ltb l wide) x (get_or (rows ++ r ∷ []) (q * wide + l) []) (get_or (rows ++ (r ++ k ∷ []) ∷ []) (q * wide + l) []) (last-mono x r (r ++ k ∷ []) (λ y i. Has-left y r (k ∷ []) i) rows (q * wide + l)) h

  pub next-nil : Has x (next_in wide rows q l) → Has x (next_in wide (rows ++ [] ∷ []) q l)
  next-nil h = cond-mono (ltb l wide) x (get_or rows (q * wide + l) []) (get_or (rows ++ [] ∷ []) (q * wide + l) []) (λ i. subst (Has x) (sym (push-nil rows (q * wide + l))) i) h

pub next-last : (wide : ℕ) (rows : List (List ℕ)) (q l : ℕ) (r : List ℕ) → l < wide → length rows ≡ q * wide + l → next_in wide (rows ++ r ∷ []) q l ≡ r
next-last wide rows q l r lt e = next-at wide (rows ++ r ∷ []) q l lt ∙ get_or_push rows r [] (q * wide + l) e

pub next-old : (wide : ℕ) (rows : List (List ℕ)) (q l : ℕ) (r : List ℕ) → l < wide → q * wide + l < length rows → next_in wide (rows ++ r ∷ []) q l ≡ next_in wide rows q l
next-old wide rows q l r lt less = next-at wide (rows ++ r ∷ []) q l lt ∙ get_or_append_left rows (r ∷ []) [] (q * wide + l) less ∙ sym (next-at wide rows q l lt)

-- Each member

pub Each-push : {A : Type 0} (P : A → Type 0) (l : List A) (x : A) → Each P l → P x → Each P (l ++ x ∷ [])
Each-push P [] x h p = (p, tt)
Each-push P (y ∷ l) x h p = (h.0, Each-push P l x h.1 p)

pub Each-weaker : {A : Type 0} (P Q : A → Type 0) (l : List A) → ((x : A) → P x → Q x) → Each P l → Each Q l
Each-weaker P Q [] f h = tt
Each-weaker P Q (y ∷ l) f h = (f y h.0, Each-weaker P Q l f h.1)

-- Kept pairs

pub KeptLive-same : (a : Automaton) (at to : ℕ → Pair) (ps : List Pair) (ks : List ℕ) → ((k : ℕ) → Has k ks → to k ≡ at k) → KeptLive a at ps ks → KeptLive a to ps ks
KeptLive-same a at to [] ks h e = e
KeptLive-same a at to (p ∷ ps) ks h (inl (dead, more)) = inl (dead, KeptLive-same a at to ps ks h more)
KeptLive-same a at to (p ∷ ps) ks h (inr (k, rest, live, e, same, more)) =
    inr (k, rest, live, e, h k (subst (Has k) (sym e) (inl refl)) ∙ same, KeptLive-same a at to ps rest (λ j i. h j (subst (Has j) (sym e) (inr i))) more)

pub KeptLive-dead : (a : Automaton) (at : ℕ → Pair) (ps : List Pair) (ks : List ℕ) (p : Pair) → KeptLive a at ps ks → (IsLive a p.set → ⊥) → KeptLive a at (ps ++ p ∷ []) ks
KeptLive-dead a at [] ks p e dead = inl (dead, e)
KeptLive-dead a at (q ∷ ps) ks p (inl (d, more)) dead = inl (d, KeptLive-dead a at ps ks p more dead)
KeptLive-dead a at (q ∷ ps) ks p (inr (k, rest, live, e, same, more)) dead = inr (k, rest, live, e, same, KeptLive-dead a at ps rest p more dead)

pub KeptLive-live : (a : Automaton) (at : ℕ → Pair) (ps : List Pair) (ks : List ℕ) (p : Pair) (j : ℕ) → KeptLive a at ps ks → IsLive a p.set → at j ≡ p → KeptLive a at (ps ++ p ∷ []) (ks ++ j ∷ [])
KeptLive-live a at [] ks p j e alive is = inr (j, [], alive, ap (λ (l : List ℕ). l ++ j ∷ []) e, is, refl)
KeptLive-live a at (q ∷ ps) ks p j (inl (d, more)) alive is = inl (d, KeptLive-live a at ps ks p j more alive is)
KeptLive-live a at (q ∷ ps) ks p j (inr (k, rest, live, e, same, more)) alive is =
    inr (k, rest ++ j ∷ [], live, ap (λ (l : List ℕ). l ++ j ∷ []) e, same, KeptLive-live a at ps rest p j more alive is)

-- Moves one after another

pub tried-step : (a : Automaton) (set ts : List ℕ) (k : ℕ) → k < length ts → tried a set (take (suc k) ts) ≡ joined a (get_or ts k 0) (tried a set (take k ts))
tried-step a set [] k lt = absurd (omega arith)
tried-step a set (t ∷ ts) zero lt = refl
tried-step a set (t ∷ ts) (suc k) lt = tried-step a (joined a t set) ts k (omega arith)

pub pairs-step : (a : Automaton) (set ts : List ℕ) (k : ℕ) → k < length ts → pairs_from a set (take (suc k) ts) ≡ pairs_from a set (take k ts) ++ record { state = get_or ts k 0; set = tried a set (take k ts) } ∷ []
pairs-step a set [] k lt = absurd (omega arith)
pairs-step a set (t ∷ ts) zero lt = refl
pairs-step a set (t ∷ ts) (suc k) lt = ap (λ (l : List Pair). let p : Pair = record { state = t; set = set } in p ∷ l) (pairs-step a (joined a t set) ts k (omega arith))

pub pairs-has : (a : Automaton) (set ts : List ℕ) (k : ℕ) → k < length ts → Has (record { state = get_or ts k 0; set = tried a set (take k ts) }) (pairs_from a set ts)
pairs-has a set [] k lt = absurd (omega arith)
pairs-has a set (t ∷ ts) zero lt = inl refl
pairs-has a set (t ∷ ts) (suc k) lt = inr (pairs-has a (joined a t set) ts k (omega arith))

pub tried-for : (a : Automaton) (set ts : List ℕ) (k : ℕ) → k < length ts → tried a set (take k ts) ≡ set_for a ts k (tried a set (take (k - 1) ts))
tried-for a set ts zero lt = refl
tried-for a set ts (suc k) lt = let e : suc k - 1 ≡ k = omega arith in tried-step a set ts k (omega arith) ∙ ap (λ (n : ℕ). joined a (get_or ts k 0) (tried a set (take n ts))) (sym e)
