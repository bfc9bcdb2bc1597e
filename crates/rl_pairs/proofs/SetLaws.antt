-- Laws of sets of states: members of images and of joined sets, and what they refuse.
use Rattle.std.proofs.Common.{◌≡◌, ◌≢◌, ◌∙◌, ℕ, zero, suc, ◌<◌, ◌⊎◌, inl, inr, List, [], ◌∷◌, ◌++◌, Bool, true, false, not, ◌||◌, ◌&&◌, eqb, eqb-true, eq-eqb, ne_eqb, filter, cond, refl, sym, ap, ap₂, subst, arith}
use Rattle.std.proofs.lemmas.Bool.{cases_Bool, false≢true, or_cases, and_parts}
use Rattle.std.proofs.lemmas.Bool.{cases_eq}
use Rattle.std.specs.List.{list_any}
use Rattle.rl_graph.specs.Paths.{Has}
use Rattle.rl_graph.proofs.Sums.{Has-filter, Has-left, Has-last, Has-append}
use Rattle.rl_prio.specs.Automaton.{Automaton, dead_state, moves_at}
use Rattle.rl_sets.specs.Live.{accepts, below, set_where, holds, image, joined, refuses}
use Rattle.rl_sets.proofs.RowLemmas.{joined-dead}

-- Tests of the members of a list

pub any-there : {A : Type 0} (p : A → Bool) (l : List A) → list_any p l ≡ true → (x : A) × Has x l × (p x ≡ true)
any-there p [] h = absurd (false≢true h)
any-there {A = A} p (a ∷ l) h = by (or_cases (p a) (list_any p l) h) (any-there p l)
  where
    by : (p a ≡ true) ⊎ (list_any p l ≡ true) → (list_any p l ≡ true → (x : A) × Has x l × (p x ≡ true)) → (x : A) × Has x (a ∷ l) × (p x ≡ true)
    by (inl e) rest = (a, inl refl, e)
    by (inr e) rest = let r = rest e in (r.0, inr r.1, r.2)

or-left : (x y : Bool) → x ≡ true → (x || y) ≡ true
or-left true y h = refl
or-left false y h = absurd (false≢true h)

or-right : (x y : Bool) → y ≡ true → (x || y) ≡ true
or-right true y h = refl
or-right false y h = h

pub and-both : (x y : Bool) → x ≡ true → y ≡ true → (x && y) ≡ true
and-both true y h k = k
and-both false y h k = h

pub any-has : {A : Type 0} (p : A → Bool) (x : A) (l : List A) → Has x l → p x ≡ true → list_any p l ≡ true
any-has p x [] h k = absurd h
any-has p x (a ∷ l) (inl e) k = or-left (p a) (list_any p l) (ap p (sym e) ∙ k)
any-has p x (a ∷ l) (inr h) k = or-right (p a) (list_any p l) (any-has p x l h k)

pub any-none : {A : Type 0} (p : A → Bool) (l : List A) → ((x : A) → Has x l → p x ≡ false) → list_any p l ≡ false
any-none p [] h = refl
any-none p (a ∷ l) h = ap₂ (λ x y. x || y) (h a (inl refl)) (any-none p l (λ x i. h x (inr i)))

pub holds-has : (set : List ℕ) (q : ℕ) → holds set q ≡ true → Has q set
holds-has set q h = let r = any-there (λ x. eqb x q) set h in subst (λ (x : ℕ). Has x set) (eqb-true r.0 q r.2) r.1

pub has-holds : (set : List ℕ) (q : ℕ) → Has q set → holds set q ≡ true
has-holds set q h = any-has (λ x. eqb x q) q set h (eq-eqb q q refl)

-- The numbers below a bound

pub below-has : (n x : ℕ) → x < n → Has x (below n)
below-has zero x h = absurd (omega arith)
below-has (suc n) x h = by (cases_eq x n) (below-has n x)
  where
    by : (x ≡ n) ⊎ (x ≢ n) → (x < n → Has x (below n)) → Has x (below n ++ n ∷ [])
    by (inl e) rest = subst (λ (y : ℕ). Has y (below n ++ n ∷ [])) (sym e) (Has-last n (below n))
    by (inr ne) rest = Has-left x (below n) (n ∷ []) (rest (omega arith))

pub Has-below : (n x : ℕ) → Has x (below n) → x < n
Has-below zero x h = absurd h
Has-below (suc n) x h = by (Has-append x (below n) (n ∷ []) h) (Has-below n x)
  where
    by : Has x (below n) ⊎ Has x (n ∷ []) → (Has x (below n) → x < n) → x < suc n
    by (inl i) rest = omega (arith, rest i)
    by (inr (inl e)) rest = omega arith
    by (inr (inr e)) rest = absurd e

filter-test : {A : Type 0} (p : A → Bool) (x : A) (l : List A) → Has x (filter p l) → p x ≡ true
filter-test p x [] h = absurd h
filter-test {A = A} p x (a ∷ l) h = by (p a) refl h (filter-test p x l)
  where
    by : (b : Bool) → p a ≡ b → Has x (cond b (a ∷ filter p l) (filter p l)) → (Has x (filter p l) → p x ≡ true) → p x ≡ true
    by true e (inl i) rest = ap p i ∙ e
    by true e (inr i) rest = rest i
    by false e i rest = rest i

filter-has : {A : Type 0} (p : A → Bool) (x : A) (l : List A) → Has x l → p x ≡ true → Has x (filter p l)
filter-has p x [] h k = h
filter-has {A = A} p x (a ∷ l) (inl e) k = subst (λ (b : Bool). Has x (cond b (a ∷ filter p l) (filter p l))) (sym (ap p (sym e) ∙ k)) (inl e)
filter-has {A = A} p x (a ∷ l) (inr h) k = by (p a) (filter-has p x l h k)
  where
    by : (b : Bool) → Has x (filter p l) → Has x (cond b (a ∷ filter p l) (filter p l))
    by true i = inr i
    by false i = i

-- Images and joined sets

pub image-has : (a : Automaton) (set : List ℕ) (letter q t : ℕ) → Has q set → Has t (moves_at a q letter) → t ≢ dead_state a → t < a.states → Has t (image a set letter)
unfolding image
image-has a set letter q t h m ne lt =
    filter-has (λ t. not (eqb t (dead_state a)) && list_any (λ q. holds (moves_at a q letter) t) set) t (below a.states) (below-has a.states t lt)
    (and-both (not (eqb t (dead_state a))) (list_any (λ q. holds (moves_at a q letter) t) set) (ap not (ne_eqb t (dead_state a) ne)) (any-has (λ q. holds (moves_at a q letter) t) q set h (has-holds (moves_at a q letter) t m)))

pub Has-image : (a : Automaton) (set : List ℕ) (letter t : ℕ) → Has t (image a set letter) → (q : ℕ) × Has q set × Has t (moves_at a q letter)
unfolding image
Has-image a set letter t h =
    let p = filter-test (λ t. not (eqb t (dead_state a)) && list_any (λ q. holds (moves_at a q letter) t) set) t (below a.states) h in
    let r = any-there (λ q. holds (moves_at a q letter) t) set (and_parts (not (eqb t (dead_state a))) (list_any (λ q. holds (moves_at a q letter) t) set) p).1 in
    (r.0, r.1, holds-has (moves_at a r.0 letter) t r.2)

pub image-alive : (a : Automaton) (set : List ℕ) (letter : ℕ) → Has (dead_state a) (image a set letter) → ⊥
unfolding image
image-alive a set letter h =
    let p = filter-test (λ t. not (eqb t (dead_state a)) && list_any (λ q. holds (moves_at a q letter) t) set) (dead_state a) (below a.states) h in
    let d = (and_parts (not (eqb (dead_state a) (dead_state a))) (list_any (λ q. holds (moves_at a q letter) (dead_state a)) set) p).0 in
    false≢true (ap not (sym (eq-eqb (dead_state a) (dead_state a) refl)) ∙ d)

-- Each member is a state.
abbrev pub Within : Automaton → List ℕ → Type 0
Within a set = (x : ℕ) → Has x set → x < a.states

pub image-within : (a : Automaton) (set : List ℕ) (letter : ℕ) → Within a (image a set letter)
unfolding image
image-within a set letter x h = Has-below a.states x (Has-filter (λ t. not (eqb t (dead_state a)) && list_any (λ q. holds (moves_at a q letter) t) set) x (below a.states) h)

pub joined-live : (a : Automaton) (t : ℕ) (set : List ℕ) → t ≢ dead_state a → joined a t set ≡ set_where a (λ x. eqb x t || holds set x)
unfolding joined
joined-live a t set ne = rw (ne_eqb t (dead_state a) ne) refl

pub joined-old : (a : Automaton) (t x : ℕ) (set : List ℕ) → Within a set → Has x set → Has x (joined a t set)
joined-old a t x set w h = by (cases_eq t (dead_state a))
  where
    by : (t ≡ dead_state a) ⊎ (t ≢ dead_state a) → Has x (joined a t set)
    by (inl e) = rw (joined-dead a t set e) h
    by (inr ne) = rw (joined-live a t set ne) (filter-has (λ x. eqb x t || holds set x) x (below a.states) (below-has a.states x (w x h)) (or-right (eqb x t) (holds set x) (has-holds set x h)))

pub joined-new : (a : Automaton) (t : ℕ) (set : List ℕ) → t < a.states → t ≢ dead_state a → Has t (joined a t set)
joined-new a t set lt ne =
    rw (joined-live a t set ne) (filter-has (λ x. eqb x t || holds set x) t (below a.states) (below-has a.states t lt) (or-left (eqb t t) (holds set t) (eq-eqb t t refl)))

pub Has-joined : (a : Automaton) (t x : ℕ) (set : List ℕ) → Has x (joined a t set) → (x ≡ t) ⊎ Has x set
Has-joined a t x set h = by (cases_eq t (dead_state a))
  where
    part : (eqb x t ≡ true) ⊎ (holds set x ≡ true) → (x ≡ t) ⊎ Has x set
    part (inl e) = inl (eqb-true x t e)
    part (inr e) = inr (holds-has set x e)

    by : (t ≡ dead_state a) ⊎ (t ≢ dead_state a) → (x ≡ t) ⊎ Has x set
    by (inl e) = inr (rw (joined-dead a t set e) at h)
    by (inr ne) = let k = rw (joined-live a t set ne) at h in part (or_cases (eqb x t) (holds set x) (filter-test (λ x. eqb x t || holds set x) x (below a.states) k))

pub joined-within : (a : Automaton) (t : ℕ) (set : List ℕ) → Within a set → Within a (joined a t set)
joined-within a t set w x h = by (cases_eq t (dead_state a))
  where
    by : (t ≡ dead_state a) ⊎ (t ≢ dead_state a) → x < a.states
    by (inl e) = w x (rw (joined-dead a t set e) at h)
    by (inr ne) = let k = rw (joined-live a t set ne) at h in Has-below a.states x (Has-filter (λ x. eqb x t || holds set x) x (below a.states) k)

-- What a set refuses

not-true : (b : Bool) → not b ≡ true → b ≡ false
not-true true h = absurd (false≢true h)
not-true false h = refl

not-false : (b : Bool) → not b ≡ false → b ≡ true
not-false true h = refl
not-false false h = absurd (false≢true (sym h))

true-is-no-false : (b : Bool) → b ≡ true → b ≡ false → ⊥
true-is-no-false b h k = false≢true (sym k ∙ h)

pub refuses-member : (a : Automaton) (set w : List ℕ) (q : ℕ) → refuses a set w ≡ true → Has q set → accepts a q w ≡ true → ⊥
unfolding refuses
refuses-member a set w q h i k = true-is-no-false (list_any (λ q. accepts a q w) set) (any-has (λ q. accepts a q w) q set i k) (not-true (list_any (λ q. accepts a q w) set) h)

pub refuses-none : (a : Automaton) (set w : List ℕ) → ((q : ℕ) → Has q set → accepts a q w ≡ true → ⊥) → refuses a set w ≡ true
unfolding refuses
refuses-none a set w h = ap not (any-none (λ q. accepts a q w) set (λ q i. by q i (cases_Bool (accepts a q w))))
  where
    by : (q : ℕ) → Has q set → (accepts a q w ≡ true) ⊎ (accepts a q w ≡ false) → accepts a q w ≡ false
    by q i (inl e) = absurd (h q i e)
    by q i (inr e) = e

pub accepts-member : (a : Automaton) (set w : List ℕ) → refuses a set w ≡ false → (q : ℕ) × Has q set × (accepts a q w ≡ true)
unfolding refuses
accepts-member a set w h = any-there (λ q. accepts a q w) set (not-false (list_any (λ q. accepts a q w) set) h)

pub refuses-not : (a : Automaton) (set w : List ℕ) (q : ℕ) → Has q set → accepts a q w ≡ true → refuses a set w ≡ false
unfolding refuses
refuses-not a set w q i k = ap not (any-has (λ q. accepts a q w) q set i k)
