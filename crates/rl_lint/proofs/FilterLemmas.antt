-- The entries at increasing positions, moved up to their places.
use Rattle.std.proofs.Common.{◌≡◌, ◌<◌, ◌≤◌, ◌+◌, ℕ, zero, suc, Bool, true, false, cond, List, [], ◌∷◌, Option, Some, None, All, length, get_or, take, map, ap, sym, ◌∙◌, refl, subst, ⊎_elim, arith}
use Rattle.std.proofs.lemmas.Bool.{cases_eq}
use Rattle.std.proofs.lemmas.List.{get_or-take, length-map, length-take-le}
use Rattle.std.specs.List.{SwappedAt, cons_option, enumerate_from, filter, filter_map}
use Rattle.std.specs.Prelude.{slice_get, ⊤}
use Rattle.rl_report.specs.Layouts.{IsOfItsUniverse}
use Rattle.rl_report.specs.declared.report.Entry.{Entry}
use Rattle.rl_lint.specs.Filter.{unknown_entries}
use Rattle.rl_sarif.specs.Keys.{EntryKey, key_of}
use Rattle.rl_sarif.specs.Known.{is_unknown, unknown_positions}

-- ---- increasing numbers

-- The numbers increase, from `low` on, and stay below `high`.
abbrev pub Rises : ℕ → List ℕ → ℕ → Type 0
Rises low [] high = ⊤
Rises low (x ∷ xs) high = (low ≤ x) × (x < high) × Rises (x + 1) xs high

lower : (a b : ℕ) (xs : List ℕ) (high : ℕ) → a ≤ b → Rises b xs high → Rises a xs high
lower a b [] high le r = tt
lower a b (x ∷ xs) high le r = (omega (arith, le, r.0), r.1, r.2)

abbrev picked : {K : Type 0} → (ℕ × K → Bool) → ℕ → List K → List ℕ
picked p n ks = map (λ e. e.0) (filter p (enumerate_from n ks))

rises-picked : {K : Type 0} (p : ℕ × K → Bool) (n : ℕ) (ks : List K) (high : ℕ) → n + length ks ≤ high → Rises n (picked p n ks) high
rises-picked p n [] high le = tt
rises-picked {K = K} p n (k ∷ ks) high le = one (p (n, k)) (rises-picked p (n + 1) ks high (omega (arith, le)))
  where
    one : (b : Bool) → Rises (n + 1) (picked p (n + 1) ks) high
        → Rises n (map (λ e. e.0) (cond b ((n, k) ∷ filter p (enumerate_from (n + 1) ks)) (filter p (enumerate_from (n + 1) ks)))) high
    one true r = (omega arith, omega (arith, le), r)
    one false r = lower n (n + 1) (picked p (n + 1) ks) high (omega arith) r

pub rises-unknown : (keys : List EntryKey) (entries : List Entry) → Rises 0 (unknown_positions keys entries) (length entries)
rises-unknown keys entries =
    rises-picked (is_unknown keys (map key_of entries)) 0 (map key_of entries) (length entries) (omega (arith, length-map entries key_of))

at-least : (low : ℕ) (xs : List ℕ) (high j : ℕ) → Rises low xs high → j < length xs → low + j ≤ get_or xs j 0
at-least low [] high j r l = absurd (omega (arith, l))
at-least low (x ∷ xs) high zero r l = omega (arith, r.0)
at-least low (x ∷ xs) high (suc j) r l = omega (arith, r.0, at-least (x + 1) xs high j r.2 (omega (arith, l)))

pub below : (low : ℕ) (xs : List ℕ) (high j : ℕ) → Rises low xs high → j < length xs → get_or xs j 0 < high
below low [] high j r l = absurd (omega (arith, l))
below low (x ∷ xs) high zero r l = r.1
below low (x ∷ xs) high (suc j) r l = below (x + 1) xs high j r.2 (omega (arith, l))

ordered : (low : ℕ) (xs : List ℕ) (high i j : ℕ) → Rises low xs high → i < j → j < length xs → get_or xs i 0 < get_or xs j 0
ordered low [] high i j r ij l = absurd (omega (arith, l))
ordered low (x ∷ xs) high i zero r ij l = absurd (omega (arith, ij))
ordered low (x ∷ xs) high zero (suc j) r ij l = omega (arith, at-least (x + 1) xs high j r.2 (omega (arith, l)))
ordered low (x ∷ xs) high (suc i) (suc j) r ij l = ordered (x + 1) xs high i j r.2 (omega (arith, ij)) (omega (arith, l))

fits : (low : ℕ) (xs : List ℕ) (high : ℕ) → low ≤ high → Rises low xs high → low + length xs ≤ high
fits low [] high le r = omega (arith, le)
fits low (x ∷ xs) high le r = omega (arith, r.0, fits (x + 1) xs high (omega (arith, r.1)) r.2)

pub few : (positions : List ℕ) (high : ℕ) → Rises 0 positions high → length positions ≤ high
few positions high r = omega (arith, fits 0 positions high (omega arith) r)

-- ---- the loop

-- `count` items have been moved up to their places, and the items after the positions so far are where they were.
pub record MovedUp {A : Type 0} (positions : List ℕ) (all items : List A) (count : ℕ) : Type 0 where
  pub len : length items ≡ length all
  pub done : (k : ℕ) (d : A) → k < count → get_or items k d ≡ get_or all (get_or positions k 0) d
  pub rest : (k : ℕ) (d : A) → ((j : ℕ) → j < count → get_or positions j 0 < k) → get_or items k d ≡ get_or all k d

pub moved-none : {A : Type 0} (positions : List ℕ) (all items : List A) → items ≡ all → MovedUp positions all items 0
moved-none positions all items same = record {
  len = ap length same;
  done = λ k d l. absurd (omega (arith, l));
  rest = λ k d behind. ap (λ xs. get_or xs k d) same;
}

pub moved-more : {A : Type 0} (positions : List ℕ) (all items next : List A) (count : ℕ) → Rises 0 positions (length all) → count < length positions
    → MovedUp positions all items count → SwappedAt items next count (get_or positions count 0) → length next ≡ length items
    → MovedUp positions all next (count + 1)
moved-more {A = A} positions all items next count rises within moved swapped same = record {
  len = same ∙ moved.len;
  done = done;
  rest = rest;
}
  where
    at : ℕ
    at = get_or positions count 0

    far : count ≤ get_or positions count 0
    far = omega (arith, at-least 0 positions (length all) count rises within)

    done : (k : ℕ) (d : A) → k < count + 1 → get_or next k d ≡ get_or all (get_or positions k 0) d
    done k d l = ⊎_elim
        (λ here. ap (λ n. get_or next n d) here ∙ swapped.0 d
        ∙ moved.rest (get_or positions count 0) d (λ j lj. ordered 0 positions (length all) j count rises lj within)
        ∙ ap (λ n. get_or all (get_or positions n 0) d) (sym here))
        (λ other. swapped.2 k d other (λ e. absurd (omega (arith, e, far, l, other))) ∙ moved.done k d (omega (arith, l, other)))
        (cases_eq k count)

    rest : (k : ℕ) (d : A) → ((j : ℕ) → j < count + 1 → get_or positions j 0 < k) → get_or next k d ≡ get_or all k d
    rest k d behind =
        let past : get_or positions count 0 < k = behind count (omega arith) in
        swapped.2 k d (λ e. absurd (omega (arith, e, far, past))) (λ e. absurd (omega (arith, e, past)))
        ∙ moved.rest k d (λ j lj. behind j (omega (arith, lj)))

-- ---- the end

got : {A : Type 0} (xs : List A) (p : ℕ) (d : A) → p < length xs → slice_get xs p ≡ Some (get_or xs p d)
got [] p d l = absurd (omega (arith, l))
got (x ∷ xs) zero d l = refl
got (x ∷ xs) (suc p) d l = got xs p d (omega (arith, l))

at-all : {A : Type 0} (low : ℕ) (positions : List ℕ) (all shown : List A) → Rises low positions (length all) → length shown ≡ length positions
    → ((k : ℕ) (d : A) → k < length positions → get_or shown k d ≡ get_or all (get_or positions k 0) d) → shown ≡ filter_map (slice_get all) positions
at-all low [] all [] r same each = refl
at-all low [] all (s ∷ shown) r same each = absurd (omega (arith, same))
at-all low (p ∷ ps) all [] r same each = absurd (omega (arith, same))
at-all low (p ∷ ps) all (s ∷ shown) r same each =
    let here : slice_get all p ≡ Some s = got all p s r.1 ∙ ap Some (sym (each zero s (omega arith))) in
    let rest : shown ≡ filter_map (slice_get all) ps =
    at-all (p + 1) ps all shown r.2 (omega (arith, same)) (λ k d l. each (suc k) d (omega (arith, l))) in
    ap (λ xs. s ∷ xs) rest ∙ sym (ap (λ o. cons_option o (filter_map (slice_get all) ps)) here)

pub moved-all : {A : Type 0} (positions : List ℕ) (all items : List A) (count : ℕ) → Rises 0 positions (length all) → length positions ≤ count
    → MovedUp positions all items count → take (length positions) items ≡ filter_map (slice_get all) positions
moved-all positions all items count rises past moved =
    at-all 0 positions all (take (length positions) items) rises (length-take-le (length positions) items (omega (arith, few positions (length all) rises, moved.len)))
    (λ k d l. get_or-take (length positions) items k d l ∙ moved.done k d (omega (arith, l, past)))

-- ---- what holds for all items

holds-at : {A : Type 0} (P : A → Type 0) (all : List A) (p : ℕ) (x : A) → All P all → slice_get all p ≡ Some x → P x
holds-at P [] p x holds is = cc
holds-at P (y ∷ all) zero x holds is = let same : y ≡ x = cc in subst P same (holds zero x (omega arith))
holds-at P (y ∷ all) (suc p) x holds is = holds-at P all p x (λ k d l. holds (suc k) d (omega (arith, l))) is

first : {A : Type 0} (P : A → Type 0) (x : A) (xs : List A) → P x → All P xs → All P (x ∷ xs)
first P x xs here later zero d l = here
first P x xs here later (suc k) d l = later k d (omega (arith, l))

pub All-at : {A : Type 0} (P : A → Type 0) (all : List A) (positions : List ℕ) → All P all → All P (filter_map (slice_get all) positions)
All-at P all [] holds = λ k d l. absurd (omega (arith, l))
All-at {A = A} P all (p ∷ ps) holds = by (slice_get all p) refl (All-at P all ps holds)
  where
    by : (found : Option A) → slice_get all p ≡ found → All P (filter_map (slice_get all) ps) → All P (cons_option found (filter_map (slice_get all) ps))
    by None is later = later
    by (Some x) is later = first P x (filter_map (slice_get all) ps) (holds-at P all p x holds is) later

-- ---- the entries that a baseline doesn't know

pub rises-of : (keys : List EntryKey) (positions : List ℕ) (entries all : List Entry) → positions ≡ unknown_positions keys entries → all ≡ entries
    → Rises 0 positions (length all)
rises-of keys positions entries all are same =
    subst (λ n. Rises 0 positions n) (sym (ap length same)) (subst (λ ps. Rises 0 ps (length entries)) (sym are) (rises-unknown keys entries))

no-more : {A B : Type 0} (f : A → Option B) (xs : List A) → length (filter_map f xs) ≤ length xs
no-more f [] = omega arith
no-more {B = B} f (x ∷ xs) = by (f x) (no-more f xs)
  where
    by : (found : Option B) → length (filter_map f xs) ≤ length xs → length (cons_option found (filter_map f xs)) ≤ suc (length xs)
    by None le = omega (arith, le)
    by (Some y) le = omega (arith, le)

pub few-unknown : (keys : List EntryKey) (entries : List Entry) → length (unknown_entries keys entries) ≤ length entries
few-unknown keys entries =
    omega (arith, no-more (slice_get entries) (unknown_positions keys entries), few (unknown_positions keys entries) (length entries) (rises-unknown keys entries))

pub universe-unknown : (keys : List EntryKey) (entries shown : List Entry) → All IsOfItsUniverse entries → shown ≡ unknown_entries keys entries
    → All IsOfItsUniverse shown
universe-unknown keys entries shown all is =
    subst (All IsOfItsUniverse) (sym is) (All-at IsOfItsUniverse entries (unknown_positions keys entries) all)
