-- The product of two copies of a graph: its moves by number, its bounds and its paths.
use Rattle.std.proofs.Common.{◌≡◌, ◌≢◌, ℕ, zero, suc, ◌+◌, ◌*◌, ◌/◌, ◌%◌, ◌<◌, ◌⊎◌, inl, inr, List, [], ◌∷◌, length, get_or, slice_get, Some, map, flat_map, eqb, eq-eqb, ne_eqb, refl, sym, ◌∙◌, ap, ap₂, subst, arith, suc-mul, mul_comm, length-append, get_or-append-add, div-add-mod', zero-mul}
use Rattle.std.proofs.lemmas.Bool.{cases_eq}
use Rattle.std.proofs.lemmas.List.{length-map, get_or_append_left, get_or-map}
use Rattle.std.proofs.lemmas.Nat.{mul-add-lt, div-mul-add, mod-mul-add, div_below, mod_below}
use Rattle.rl_graph.specs.Paths.{total, one, Has, paths, IsBounded}
use Rattle.rl_graph.specs.Product.{pair_moves}
use Rattle.rl_graph.proofs.Sums.{at-short, at-get_or, get_or-at, total-map, total-flat_map, total-same, total-times, has-map, has-flat_map}

-- The product of two rows.
abbrev pub pairs_of : ℕ → List ℕ → List ℕ → List ℕ
pairs_of n b a = flat_map (λ x. map (λ y. x * n + y) b) a

pub length-pairs : (n : ℕ) (a b : List ℕ) → length (pairs_of n b a) ≡ length a * length b
length-pairs n [] b = omega (arith, zero-mul (length b))
length-pairs n (x ∷ a) b =
    omega (arith, length-append (map (λ y. x * n + y) b) (pairs_of n b a), length-map b (λ y. x * n + y), length-pairs n a b, suc-mul (length a) (length b))

at-pairs : (n : ℕ) (a b : List ℕ) (i j : ℕ) → i < length a → j < length b → get_or (pairs_of n b a) (i * length b + j) 0 ≡ get_or a i 0 * n + get_or b j 0
at-pairs n [] b i j h k = absurd (omega arith)
at-pairs n (x ∷ a) b zero j h k =
    let e : 0 * length b + j ≡ j = omega (arith, zero-mul (length b)) in
    let s : j < length (map (λ y. x * n + y) b) = omega (arith, length-map b (λ y. x * n + y)) in
    ap (λ i. get_or (pairs_of n b (x ∷ a)) i 0) e ∙ (get_or_append_left (map (λ y. x * n + y) b) (pairs_of n b a) 0 j s ∙ get_or-map (λ y. x * n + y) b j 0 0 k)
at-pairs n (x ∷ a) b (suc i) j h k =
    let e : suc i * length b + j ≡ length (map (λ y. x * n + y) b) + (i * length b + j) = omega (arith, suc-mul i (length b), length-map b (λ y. x * n + y)) in
    ap (λ i. get_or (pairs_of n b (x ∷ a)) i 0) e ∙ (get_or-append-add (map (λ y. x * n + y) b) (pairs_of n b a) (i * length b + j) 0 ∙ at-pairs n a b i j (omega arith) k)

not-below-zero : (k m : ℕ) → m < k * 0 → ⊥
not-below-zero k m h = omega arith

pub some-width : (a b m : ℕ) → m < a * b → 0 < b
some-width a zero m h = absurd (not-below-zero a m h)
some-width a (suc b) m h = omega arith

-- The pair at a place: the place in the first row, and the place in the second.
pub at-place : (n : ℕ) (a b : List ℕ) (m : ℕ) → m < length a * length b → get_or (pairs_of n b a) m 0 ≡ get_or a (m / length b) 0 * n + get_or b (m % length b) 0
at-place n a b m h =
    let w = some-width (length a) (length b) m h in
    ap (λ i. get_or (pairs_of n b a) i 0) (sym (div-add-mod' m (length b))) ∙ at-pairs n a b (m / length b) (m % length b) (div_below m (length b) (length a) w h) (mod_below m (length b) w)

-- The same if the second row has one member.
pub at-place-one : (n : ℕ) (a b : List ℕ) (m : ℕ) → length b ≡ 1 → m < length a * length b → get_or (pairs_of n b a) m 0 ≡ get_or a m 0 * n + get_or b 0 0
at-place-one n a b m one h =
    let e : m * length b + 0 ≡ m = ap (λ z. m * z + 0) one ∙ omega arith in
    let lt : m < length a = omega (arith, subst (λ (z : ℕ). m < length a * z) one h) in
    ap (λ i. get_or (pairs_of n b a) i 0) (sym e) ∙ at-pairs n a b m 0 lt (omega (arith, one))

pub bounded-pairs : (next : ℕ → ℕ → List ℕ) (n k : ℕ) → IsBounded next n k → IsBounded (pair_moves next n) (n * n) k
bounded-pairs next n k h = record { targets = targets; letters = λ q l i. ap (flat_map (λ x. map (λ y. x * n + y) (next (q % n) l))) (h.letters (q / n) l i) }
  where
    targets : (q l m : ℕ) → Has m (pair_moves next n q l) → m < n * n
    targets q l m i =
        let a = has-flat_map (λ x. map (λ y. x * n + y) (next (q % n) l)) m (next (q / n) l) i in
        let b = has-map (λ y. a.0 * n + y) m (next (q % n) l) a.2 in
        omega (arith, b.2, mul-add-lt a.0 n b.0 n (h.targets (q / n) l a.0 a.1) (h.targets (q % n) l b.0 b.1))

pair-nil : (n p q a b : ℕ) → q < n → b < n → one (eqb (p * n + q) (a * n + b)) ≡ one (eqb p a) * one (eqb q b)
pair-nil n p q a b hq hb = by (cases_eq p a) (cases_eq q b)
  where
    by : (p ≡ a) ⊎ (p ≢ a) → (q ≡ b) ⊎ (q ≢ b) → one (eqb (p * n + q) (a * n + b)) ≡ one (eqb p a) * one (eqb q b)
    by (inl e) (inl f) = rw (eq-eqb p a e, eq-eqb q b f, eq-eqb (p * n + q) (a * n + b) (ap₂ (λ x y. x * n + y) e f)) refl
    by (inl e) (inr f) = rw (eq-eqb p a e, ne_eqb q b f, ne_eqb (p * n + q) (a * n + b) (λ z. f (sym (mod-mul-add p n q hq) ∙ (ap (λ x. x % n) z ∙ mod-mul-add a n b hb)))) refl
    by (inr e) f = rw (ne_eqb p a e, ne_eqb (p * n + q) (a * n + b) (λ z. e (sym (div-mul-add p n q hq) ∙ (ap (λ x. x / n) z ∙ div-mul-add a n b hb)))) (sym (zero-mul (one (eqb q b))))

-- A path of the product is a path of each copy.
pub pair_paths : (next : ℕ → ℕ → List ℕ) (n k : ℕ) → IsBounded next n k → (p q a b : ℕ) (w : List ℕ) → p < n → q < n → a < n → b < n → paths (pair_moves next n) (p * n + q) (a * n + b) w ≡ paths next p a w * paths next q b w
pair_paths next n k h p q a b [] hp hq ha hb = pair-nil n p q a b hq hb
pair_paths next n k h p q a b (l ∷ w) hp hq ha hb =
    let f : ℕ → ℕ = λ m. paths (pair_moves next n) m (a * n + b) w in
    let here : total f (pair_moves next n (p * n + q) l) ≡ total f (pairs_of n (next q l) (next p l)) =
    ap₂ (λ x y. total f (pairs_of n (next y l) (next x l))) (div-mul-add p n q hq) (mod-mul-add p n q hq) in
    let each = total-flat_map f (λ x. map (λ y. x * n + y) (next q l)) (next p l) in
    let inner = total-same (λ x. total f (map (λ y. x * n + y) (next q l))) (λ x. paths next x a w * total (λ y. paths next y b w) (next q l)) (next p l)
    (λ x i. total-map f (λ y. x * n + y) (next q l)
    ∙ (total-same (λ y. f (x * n + y)) (λ y. paths next y b w * paths next x a w) (next q l)
    (λ y j. pair_paths next n k h x y a b w (h.targets p l x i) (h.targets q l y j) ha hb ∙ mul_comm (paths next x a w) (paths next y b w))
    ∙ (total-times (λ y. paths next y b w) (paths next x a w) (next q l) ∙ mul_comm (total (λ y. paths next y b w) (next q l)) (paths next x a w)))) in
    here ∙ (each ∙ (inner ∙ total-times (λ x. paths next x a w) (total (λ y. paths next y b w) (next q l)) (next p l)))

-- A move of each copy is a move of the product.
pub step-pair : (next : ℕ → ℕ → List ℕ) (n p q l i j x y : ℕ) → q < n → slice_get (next p l) i ≡ Some x → slice_get (next q l) j ≡ Some y → slice_get (pair_moves next n (p * n + q) l) (i * length (next q l) + j) ≡ Some (x * n + y)
step-pair next n p q l i j x y h e f =
    let a = at-short (next p l) i x e in
    let b = at-short (next q l) j y f in
    let same : pair_moves next n (p * n + q) l ≡ pairs_of n (next q l) (next p l) =
    ap₂ (λ u v. pairs_of n (next v l) (next u l)) (div-mul-add p n q h) (mod-mul-add p n q h) in
    let short : i * length (next q l) + j < length (pairs_of n (next q l) (next p l)) =
    omega (arith, length-pairs n (next p l) (next q l), mul-add-lt i (length (next q l)) j (length (next p l)) a b, mul_comm (length (next p l)) (length (next q l))) in
    let value = at-pairs n (next p l) (next q l) i j a b in
    ap (λ (r : List ℕ). slice_get r (i * length (next q l) + j)) same
    ∙ (get_or-at (pairs_of n (next q l) (next p l)) (i * length (next q l) + j) 0 short
    ∙ ap Some (value ∙ ap₂ (λ u v. u * n + v) (at-get_or (next p l) i x 0 e) (at-get_or (next q l) j y 0 f)))
