-- Laws of `total`, `Has`, `Each` and `Pairs`.
use Rattle.std.proofs.Common.{◌≡◌, ◌≢◌, ◌∙◌, ℕ, zero, suc, ◌+◌, ◌*◌, ◌<◌, ◌≤◌, ◌⊎◌, inl, inr, List, [], ◌∷◌, ◌++◌, length, map, flat_map, slice_get, get_or, Some, Bool, true, false, filter, cond, refl, sym, ap, subst, arith}
use Rattle.rl_graph.specs.Paths.{total, Has, Each, Pairs}

-- Sums

pub total-append : {A : Type 0} (f : A → ℕ) (x y : List A) → total f (x ++ y) ≡ total f x + total f y
total-append f [] y = omega arith
total-append f (a ∷ x) y = omega (arith, total-append f x y)

pub total-map : {A B : Type 0} (f : B → ℕ) (g : A → B) (l : List A) → total f (map g l) ≡ total (λ x. f (g x)) l
total-map f g [] = refl
total-map f g (a ∷ l) = omega (arith, total-map f g l)

pub total-flat_map : {A B : Type 0} (f : B → ℕ) (g : A → List B) (l : List A) → total f (flat_map g l) ≡ total (λ x. total f (g x)) l
total-flat_map f g [] = refl
total-flat_map f g (a ∷ l) = omega (arith, total-flat_map f g l, total-append f (g a) (flat_map g l))

pub total-same : {A : Type 0} (f g : A → ℕ) (l : List A) → ((x : A) → Has x l → f x ≡ g x) → total f l ≡ total g l
total-same f g [] h = refl
total-same f g (a ∷ l) h = omega (arith, h a (inl refl), total-same f g l (λ x i. h x (inr i)))

pub total-mono : {A : Type 0} (f g : A → ℕ) (l : List A) → ((x : A) → Has x l → f x ≤ g x) → total f l ≤ total g l
total-mono f g [] h = omega arith
total-mono f g (a ∷ l) h = omega (arith, h a (inl refl), total-mono f g l (λ x i. h x (inr i)))

pub total-add : {A : Type 0} (f g : A → ℕ) (l : List A) → total (λ x. f x + g x) l ≡ total f l + total g l
total-add f g [] = omega arith
total-add f g (a ∷ l) = omega (arith, total-add f g l)

pub total-times : {A : Type 0} (f : A → ℕ) (k : ℕ) (l : List A) → total (λ x. f x * k) l ≡ total f l * k
total-times f k [] = omega arith
total-times f k (a ∷ l) = omega (arith, total-times f k l)

pub total-zero : {A : Type 0} (f : A → ℕ) (l : List A) → ((x : A) → Has x l → f x ≡ 0) → total f l ≡ 0
total-zero f [] h = refl
total-zero f (a ∷ l) h = omega (arith, h a (inl refl), total-zero f l (λ x i. h x (inr i)))

-- A member's share is within the sum.
pub total-has : {A : Type 0} (f : A → ℕ) (x : A) (l : List A) → Has x l → f x ≤ total f l
total-has f x [] h = absurd h
total-has f x (a ∷ l) (inl e) = rw e (omega arith)
total-has f x (a ∷ l) (inr h) = omega (arith, total-has f x l h)

-- A sum that isn't 0 has a share that isn't 0.
pub total-there : {A : Type 0} (f : A → ℕ) (l : List A) → 1 ≤ total f l → (x : A) × Has x l × (1 ≤ f x)
total-there f [] h = absurd (omega arith)
total-there {A = A} f (a ∷ l) h = by (f a) refl (total-there f l)
  where
    by : (n : ℕ) → n ≡ f a → (1 ≤ total f l → (x : A) × Has x l × (1 ≤ f x)) → (x : A) × Has x (a ∷ l) × (1 ≤ f x)
    by zero e rest = let r = rest (omega arith) in (r.0, inr r.1, r.2)
    by (suc n) e rest = (a, inl refl, omega arith)

-- The shares of two different places are within the sum.
pub total-at : {A : Type 0} (f : A → ℕ) (l : List A) (i : ℕ) (x : A) → slice_get l i ≡ Some x → f x ≤ total f l
total-at f [] i x h = cc
total-at f (a ∷ l) zero x h = let e : a ≡ x = cc in rw (← e) (omega arith)
total-at f (a ∷ l) (suc i) x h = omega (arith, total-at f l i x h)

pub total-two : {A : Type 0} (f : A → ℕ) (l : List A) (i j : ℕ) (x y : A) → i ≢ j → slice_get l i ≡ Some x → slice_get l j ≡ Some y → f x + f y ≤ total f l
total-two f [] i j x y ne h k = cc
total-two f (a ∷ l) zero zero x y ne h k = absurd (ne refl)
total-two f (a ∷ l) zero (suc j) x y ne h k = let e : a ≡ x = cc in rw (← e) (omega (arith, total-at f l j y k))
total-two f (a ∷ l) (suc i) zero x y ne h k = let e : a ≡ y = cc in rw (← e) (omega (arith, total-at f l i x h))
total-two f (a ∷ l) (suc i) (suc j) x y ne h k = omega (arith, total-two f l i j x y (λ e. ne (ap suc e)) h k)

-- Members

pub Has-at : {A : Type 0} (l : List A) (i : ℕ) (x : A) → slice_get l i ≡ Some x → Has x l
Has-at [] i x h = cc
Has-at (a ∷ l) zero x h = inl cc
Has-at (a ∷ l) (suc i) x h = inr (Has-at l i x h)

pub at-has : {A : Type 0} (x : A) (l : List A) → Has x l → (i : ℕ) × (slice_get l i ≡ Some x)
at-has x [] h = absurd h
at-has x (a ∷ l) (inl e) = (0, ap Some (sym e))
at-has x (a ∷ l) (inr h) = let r = at-has x l h in (suc r.0, r.1)

pub at-short : {A : Type 0} (l : List A) (i : ℕ) (x : A) → slice_get l i ≡ Some x → i < length l
at-short [] i x h = cc
at-short (a ∷ l) zero x h = omega arith
at-short (a ∷ l) (suc i) x h = omega (arith, at-short l i x h)

pub at-get_or : {A : Type 0} (l : List A) (i : ℕ) (x d : A) → slice_get l i ≡ Some x → get_or l i d ≡ x
at-get_or [] i x d h = cc
at-get_or (a ∷ l) zero x d h = cc
at-get_or (a ∷ l) (suc i) x d h = at-get_or l i x d h

pub get_or-at : {A : Type 0} (l : List A) (i : ℕ) (d : A) → i < length l → slice_get l i ≡ Some (get_or l i d)
get_or-at [] i d h = absurd (omega arith)
get_or-at (a ∷ l) zero d h = refl
get_or-at (a ∷ l) (suc i) d h = get_or-at l i d (omega arith)

pub Has-get_or : {A : Type 0} (l : List A) (i : ℕ) (d : A) → i < length l → Has (get_or l i d) l
Has-get_or l i d h = Has-at l i (get_or l i d) (get_or-at l i d h)

pub Has-left : {A : Type 0} (x : A) (l k : List A) → Has x l → Has x (l ++ k)
Has-left x [] k h = absurd h
Has-left x (a ∷ l) k (inl e) = inl e
Has-left x (a ∷ l) k (inr h) = inr (Has-left x l k h)

pub Has-right : {A : Type 0} (x : A) (l k : List A) → Has x k → Has x (l ++ k)
Has-right x [] k h = h
Has-right x (a ∷ l) k h = inr (Has-right x l k h)

pub Has-append : {A : Type 0} (x : A) (l k : List A) → Has x (l ++ k) → Has x l ⊎ Has x k
Has-append x [] k h = inr h
Has-append x (a ∷ l) k (inl e) = inl (inl e)
Has-append {A = A} x (a ∷ l) k (inr h) = put (Has-append x l k h)
  where
    put : Has x l ⊎ Has x k → Has x (a ∷ l) ⊎ Has x k
    put (inl i) = inl (inr i)
    put (inr i) = inr i

pub Has-last : {A : Type 0} (x : A) (l : List A) → Has x (l ++ x ∷ [])
Has-last x l = Has-right x l (x ∷ []) (inl refl)

pub Has-push : {A : Type 0} (x y : A) (l : List A) → Has x (l ++ y ∷ []) → Has x l ⊎ (x ≡ y)
Has-push {A = A} x y l h = put (Has-append x l (y ∷ []) h)
  where
    put : Has x l ⊎ Has x (y ∷ []) → Has x l ⊎ (x ≡ y)
    put (inl i) = inl i
    put (inr (inl e)) = inr e
    put (inr (inr n)) = absurd n

pub Has-filter : {A : Type 0} (p : A → Bool) (x : A) (l : List A) → Has x (filter p l) → Has x l
Has-filter p x [] h = h
Has-filter {A = A} p x (a ∷ l) h = by (p a) h (Has-filter p x l)
  where
    by : (b : Bool) → Has x (cond b (a ∷ filter p l) (filter p l)) → (Has x (filter p l) → Has x l) → Has x (a ∷ l)
    by true (inl e) rest = inl e
    by true (inr i) rest = inr (rest i)
    by false i rest = inr (rest i)

pub Has-map : {A B : Type 0} (f : A → B) (x : A) (l : List A) → Has x l → Has (f x) (map f l)
Has-map f x [] h = absurd h
Has-map f x (a ∷ l) (inl e) = inl (ap f e)
Has-map f x (a ∷ l) (inr h) = inr (Has-map f x l h)

pub has-map : {A B : Type 0} (f : A → B) (y : B) (l : List A) → Has y (map f l) → (x : A) × Has x l × (y ≡ f x)
has-map f y [] h = absurd h
has-map f y (a ∷ l) (inl e) = (a, inl refl, e)
has-map f y (a ∷ l) (inr h) = let r = has-map f y l h in (r.0, inr r.1, r.2)

pub has-flat_map : {A B : Type 0} (f : A → List B) (y : B) (l : List A) → Has y (flat_map f l) → (x : A) × Has x l × Has y (f x)
has-flat_map f y [] h = absurd h
has-flat_map {A = A} {B = B} f y (a ∷ l) h = put (Has-append y (f a) (flat_map f l) h) (has-flat_map f y l)
  where
    put : Has y (f a) ⊎ Has y (flat_map f l) → (Has y (flat_map f l) → (x : A) × Has x l × Has y (f x)) → (x : A) × Has x (a ∷ l) × Has y (f x)
    put (inl i) rest = (a, inl refl, i)
    put (inr i) rest = let r = rest i in (r.0, inr r.1, r.2)

pub Each-has : {A : Type 0} (P : A → Type 0) (x : A) (l : List A) → Each P l → Has x l → P x
Each-has P x [] e h = absurd h
Each-has P x (a ∷ l) e (inl i) = subst P (sym i) e.0
Each-has P x (a ∷ l) e (inr h) = Each-has P x l e.1 h

pub each-has : {A : Type 0} (P : A → Type 0) (l : List A) → ((x : A) → Has x l → P x) → Each P l
each-has P [] h = tt
each-has P (a ∷ l) h = (h a (inl refl), each-has P l (λ x i. h x (inr i)))

pub Pairs-push : {A : Type 0} (R : A → A → Type 0) (l : List A) (y : A) → Pairs R l → ((x : A) → Has x l → R x y) → Pairs R (l ++ y ∷ [])
Pairs-push R [] y p h = (tt, tt)
Pairs-push {A = A} R (a ∷ l) y p h =
    (each-has (R a) (l ++ y ∷ []) (λ x i. last x (Has-push x y l i)), Pairs-push R l y p.1 (λ x i. h x (inr i)))
  where
    last : (x : A) → Has x l ⊎ (x ≡ y) → R a x
    last x (inl i) = Each-has (R a) x l p.0 i
    last x (inr e) = subst (R a) (sym e) (h a (inl refl))

-- A list without its last member, and how the other members are related to that member.
pub Pairs-pop : {A : Type 0} (R : A → A → Type 0) (l : List A) (y : A) → Pairs R (l ++ y ∷ []) → Pairs R l × ((x : A) → Has x l → R x y)
Pairs-pop R [] y p = (tt, λ x h. absurd h)
Pairs-pop {A = A} R (a ∷ l) y p = let r = Pairs-pop R l y p.1 in ((each-has (R a) l (λ x i. Each-has (R a) x (l ++ y ∷ []) p.0 (Has-left x l (y ∷ []) i)), r.0), before r.1)
  where
    before : ((x : A) → Has x l → R x y) → (x : A) → Has x (a ∷ l) → R x y
    before f x (inl e) = subst (λ (z : A). R z y) (sym e) (Each-has (R a) y (l ++ y ∷ []) p.0 (Has-last y l))
    before f x (inr i) = f x i

-- A list without one of its members.
without : {A : Type 0} (x : A) (l : List A) → Has x l → (r : List A) × (length l ≡ suc (length r)) × ((y : A) → y ≢ x → Has y l → Has y r)
without x [] h = absurd h
without {A = A} x (z ∷ l) (inl e) = (l, refl, others)
  where
    others : (y : A) → y ≢ x → Has y (z ∷ l) → Has y l
    others y ne (inl d) = absurd (ne (d ∙ sym e))
    others y ne (inr i) = i
without {A = A} x (z ∷ l) (inr h) = let r = without x l h in (z ∷ r.0, ap suc r.1, others r.0 r.2)
  where
    others : (r : List A) → ((y : A) → y ≢ x → Has y l → Has y r) → (y : A) → y ≢ x → Has y (z ∷ l) → Has y (z ∷ r)
    others r f y ne (inl d) = inl d
    others r f y ne (inr i) = inr (f y ne i)

-- Different things of a list are at most its length.
pub distinct-short : {A : Type 0} (l m : List A) → Pairs (λ x y. x ≢ y) l → ((x : A) → Has x l → Has x m) → length l ≤ length m
distinct-short [] m p h = omega arith
distinct-short (x ∷ l) m p h =
    let r = without x m (h x (inl refl)) in
    omega (arith, r.1, distinct-short l r.0 p.1 (λ y i. r.2 y (λ e. Each-has (λ z. x ≢ z) y l p.0 i (sym e)) (h y (inr i))))
