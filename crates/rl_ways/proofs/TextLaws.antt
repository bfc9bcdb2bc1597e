-- Different lists of move numbers along a text are told differently.
use Rattle.std.proofs.Common.{◌≡◌, ℕ, suc, ⊎_elim, Bool, true, false, List, [], ◌∷◌, length, Option, None, Some, slice_get, if◌then◌else◌, refl, sym, ap, ap₂, ◌∙◌, subst, arith}
use Rattle.std.proofs.lemmas.Bool.{cases_eq}
use Rattle.std.proofs.lemmas.Option.{same_Some}
use Rattle.rl_syntax.specs.Tree.{Tree}
use Rattle.rl_prio.specs.Items.{set_of}
use Rattle.rl_ways.specs.Told.{ToldItem, Decision}
use Rattle.rl_ways.specs.Apart.{ArePart}
use Rattle.rl_ways.specs.Ways.{open_ones, told_at, decisions_of, if_taken, if_any, text_way, PartsAt}
use Rattle.rl_ways.proofs.ApartLaws.{part-apart, told_first-part, told_after-part}
use Rattle.rl_ways.proofs.WayLaws.{are_part-open, are_part_at}

pub told_at-part : (t : Tree) (place : Option ℕ) → ArePart (told_at t place)
told_at-part t None = told_first-part t 0 0
told_at-part t (Some p) = told_after-part t 0 0 p

-- A way of as many told items as numbers.
abbrev Whole : List ToldItem → List ℕ → Type 0
Whole l p = length l ≡ length p

-- Two ways along the same text, of different lists of numbers.
abbrev Apart : List ToldItem → List ToldItem → List ℕ → List ℕ → Type 0
Apart l m p r = Whole l p → Whole m r → (p ≡ r → ⊥) → decisions_of l ≡ decisions_of m → ⊥

length-decisions_of : (l : List ToldItem) → length (decisions_of l) ≡ length l
length-decisions_of [] = refl
length-decisions_of (m ∷ l) = ap suc (length-decisions_of l)

-- Ways that are told alike have the same length.
same_length : (l m : List ToldItem) → decisions_of l ≡ decisions_of m → length l ≡ length m
same_length l m same = sym (length-decisions_of l) ∙ ap length same ∙ length-decisions_of m

none_of : (p : List ℕ) → 0 ≡ length p → p ≡ []
none_of [] e = refl
none_of (i ∷ p) e = absurd (omega (arith, e))

-- Ways without told items.
apart-none : (p r : List ℕ) → Apart [] [] p r
apart-none p r here there other same = other (none_of p here ∙ sym (none_of r there))

same_head : (a b : List Decision) (l m : List (List Decision)) → a ∷ l ≡ b ∷ m → a ≡ b
same_head a b l m e = cc

same_tail : (a b : List Decision) (l m : List (List Decision)) → a ∷ l ≡ b ∷ m → l ≡ m
same_tail a b l m e = cc

-- Ways that begin with one move.
apart-after : (x : ToldItem) (l m : List ToldItem) (i j : ℕ) (p r : List ℕ) → i ≡ j → Apart l m p r → Apart (x ∷ l) (x ∷ m) (i ∷ p) (j ∷ r)
apart-after x l m i j p r e rest here there other same =
    rest (omega (arith, here)) (omega (arith, there)) (λ alike. other (ap₂ (λ k ks. k ∷ ks) e alike))
    (same_tail x.decisions x.decisions (decisions_of l) (decisions_of m) same)

module _ (t : Tree) (code : ℕ) (f g : ℕ → List ToldItem) (p r : List ℕ) (ih : (q : ℕ) → Apart (f q) (g q) p r) where
  apart-taken : (x : ToldItem) (i j : ℕ) (o : Option ℕ) → i ≡ j → Apart (if_taken t code x f o) (if_taken t code x g o) (i ∷ p) (j ∷ r)
  apart-taken x i j None e = apart-none (i ∷ p) (j ∷ r)
  apart-taken x i j (Some q) e = by (set_of t 0 q code)
    where
      by : (v : Bool) → Apart (if v then x ∷ f q else []) (if v then x ∷ g q else []) (i ∷ p) (j ∷ r)
      by true = apart-after x (f q) (g q) i j p r e (ih q)
      by false = apart-none (i ∷ p) (j ∷ r)

-- What begins with a move and takes the code has the decisions of the move in front.
begins : (t : Tree) (code : ℕ) (f : ℕ → List ToldItem) (x : ToldItem) (o : Option ℕ) (n : ℕ) → length (if_taken t code x f o) ≡ suc n
    → (l : List ToldItem) × (if_taken t code x f o ≡ x ∷ l)
begins t code f x None n e = absurd (omega (arith, e))
begins t code f x (Some q) n e = by (set_of t 0 q code) e
  where
    by : (v : Bool) → length (if v then x ∷ f q else []) ≡ suc n → (l : List ToldItem) × ((if v then x ∷ f q else []) ≡ x ∷ l)
    by true e = (f q, refl)
    by false e = absurd (omega (arith, e))

-- The move with a number, if the way isn't empty.
move_of : (t : Tree) (code : ℕ) (f : ℕ → List ToldItem) (l : List ToldItem) (i n : ℕ) (o : Option ToldItem) → slice_get l i ≡ o
    → length (if_any (λ m. if_taken t code m f m.place) o) ≡ suc n → (m : ToldItem) × (slice_get l i ≡ Some m)
move_of t code f l i n None e long = absurd (omega (arith, long))
move_of t code f l i n (Some m) e long = (m, e)

pub text_ways-apart : (t : Tree) (text p r : List ℕ) (place before : Option ℕ) → Apart (text_way t place before text p) (text_way t place before text r) p r
text_ways-apart t [] p r place before = apart-none p r
text_ways-apart t (code ∷ text) [] [] place before = apart-none [] []
text_ways-apart t (code ∷ text) [] (j ∷ r) place before =
    λ here there other same. absurd (omega (arith, there, same_length [] (text_way t place before (code ∷ text) (j ∷ r)) same))
text_ways-apart t (code ∷ text) (i ∷ p) [] place before =
    λ here there other same. absurd (omega (arith, here, same_length (text_way t place before (code ∷ text) (i ∷ p)) [] same))
text_ways-apart t (code ∷ text) (i ∷ p) (j ∷ r) place before =
    λ here there other same.
    let items = open_ones before (Some code) (told_at t place) in
    let f : ℕ → List ToldItem = λ q. text_way t (Some q) (Some code) text p in
    let g : ℕ → List ToldItem = λ q. text_way t (Some q) (Some code) text r in
    let F : Option ToldItem → List ToldItem = if_any (λ m. if_taken t code m f m.place) in
    let G : Option ToldItem → List ToldItem = if_any (λ m. if_taken t code m g m.place) in
    let one = move_of t code f items i (length p) (slice_get items i) refl here in
    let two = move_of t code g items j (length r) (slice_get items j) refl there in
    let x = one.0 in
    let y = two.0 in
    let long : length (if_taken t code x f x.place) ≡ suc (length p) = ap (λ o. length (F o)) (sym one.1) ∙ here in
    let long2 : length (if_taken t code y g y.place) ≡ suc (length r) = ap (λ o. length (G o)) (sym two.1) ∙ there in
    let told : decisions_of (if_taken t code x f x.place) ≡ decisions_of (if_taken t code y g y.place) =
    ap (λ o. decisions_of (F o)) (sym one.1) ∙ same ∙ ap (λ o. decisions_of (G o)) two.1 in
    ⊎_elim
    (λ e.
    let alike : x ≡ y = same_Some x y (sym one.1 ∙ ap (slice_get items) e ∙ two.1) in
    apart-taken t code f g p r (λ q. text_ways-apart t text p r (Some q) (Some code)) x i j x.place e long
    (ap (λ m. length (if_taken t code m g m.place)) alike ∙ long2) other
    (told ∙ ap (λ m. decisions_of (if_taken t code m g m.place)) (sym alike)))
    (λ e.
    let a = begins t code f x x.place (length p) long in
    let b = begins t code g y y.place (length r) long2 in
    part-apart x.decisions y.decisions (are_part_at items i j x y (are_part-open before (Some code) (told_at t place) (told_at-part t place)) e one.1 two.1)
    (same_head x.decisions y.decisions (decisions_of a.0) (decisions_of b.0) (sym (ap decisions_of a.1) ∙ told ∙ ap decisions_of b.1)))
    (cases_eq i j)

-- What takes the code has a place, and goes on behind it.
taken_one : (t : Tree) (code : ℕ) (f : ℕ → List ToldItem) (x : ToldItem) (o : Option ℕ) (n : ℕ) → length (if_taken t code x f o) ≡ suc n
    → (q : ℕ) × (o ≡ Some q) × (if_taken t code x f o ≡ x ∷ f q)
taken_one t code f x None n e = absurd (omega (arith, e))
taken_one t code f x (Some q) n e = by (set_of t 0 q code) e
  where
    by : (v : Bool) → length (if v then x ∷ f q else []) ≡ suc n → (r : ℕ) × (Some q ≡ Some r) × ((if v then x ∷ f q else []) ≡ x ∷ f r)
    by true e = (q, refl, refl)
    by false e = absurd (omega (arith, e))

-- One told item in front of both ways.
parts-after : (x : ToldItem) (l m : List ToldItem) → (k : ℕ) × PartsAt k l m → (k : ℕ) × PartsAt k (x ∷ l) (x ∷ m)
parts-after x l m (k, h) = (
  suc k,
  record {
    common = x ∷ h.common;
    one = h.one;
    other = h.other;
    rest = h.rest;
    others = h.others;
    first = ap (λ y. x ∷ y) h.first;
    second = ap (λ y. x ∷ y) h.second;
    index = ap suc h.index;
    part = h.part;
  },
)

pub text_ways-part : (t : Tree) (text p r : List ℕ) (place before : Option ℕ) → Whole (text_way t place before text p) p → Whole (text_way t place before text r) r
    → length p ≡ length r → (p ≡ r → ⊥) → (k : ℕ) × PartsAt k (text_way t place before text p) (text_way t place before text r)
text_ways-part t [] p r place before here there long other = absurd (other (none_of p here ∙ sym (none_of r there)))
text_ways-part t (code ∷ text) [] [] place before here there long other = absurd (other refl)
text_ways-part t (code ∷ text) [] (j ∷ r) place before here there long other = absurd (omega (arith, long))
text_ways-part t (code ∷ text) (i ∷ p) [] place before here there long other = absurd (omega (arith, long))
text_ways-part t (code ∷ text) (i ∷ p) (j ∷ r) place before here there long other =
    let items = open_ones before (Some code) (told_at t place) in
    let f : ℕ → List ToldItem = λ q. text_way t (Some q) (Some code) text p in
    let g : ℕ → List ToldItem = λ q. text_way t (Some q) (Some code) text r in
    let F : Option ToldItem → List ToldItem = if_any (λ m. if_taken t code m f m.place) in
    let G : Option ToldItem → List ToldItem = if_any (λ m. if_taken t code m g m.place) in
    let one = move_of t code f items i (length p) (slice_get items i) refl here in
    let two = move_of t code g items j (length r) (slice_get items j) refl there in
    let x = one.0 in
    let y = two.0 in
    let u = taken_one t code f x x.place (length p) (ap (λ o. length (F o)) (sym one.1) ∙ here) in
    let v = taken_one t code g y y.place (length r) (ap (λ o. length (G o)) (sym two.1) ∙ there) in
    let left : F (slice_get items i) ≡ x ∷ f u.0 = ap F one.1 ∙ u.2 in
    let right : G (slice_get items j) ≡ y ∷ g v.0 = ap G two.1 ∙ v.2 in
    ⊎_elim
    (λ e.
    let alike : x ≡ y = same_Some x y (sym one.1 ∙ ap (slice_get items) e ∙ two.1) in
    let same : u.0 ≡ v.0 = same_Some u.0 v.0 (sym u.1 ∙ ap (λ m. m.place) alike ∙ v.1) in
    let right_here : G (slice_get items j) ≡ x ∷ g u.0 = right ∙ ap₂ (λ m q. m ∷ g q) (sym alike) (sym same) in
    let after = parts-after x (f u.0) (g u.0)
    (text_ways-part t text p r (Some u.0) (Some code)
    (omega (arith, here, ap length left)) (omega (arith, there, ap length right_here)) (omega (arith, long)) (λ is. other (ap₂ (λ k ks. k ∷ ks) e is))) in
    (after.0, subst (λ l. PartsAt after.0 l (G (slice_get items j))) (sym left) (subst (PartsAt after.0 (x ∷ f u.0)) (sym right_here) after.1)))
    (λ e. (
      0,
      record {
        common = [];
        one = x;
        other = y;
        rest = f u.0;
        others = g v.0;
        first = left;
        second = right;
        index = refl;
        part = are_part_at items i j x y (are_part-open before (Some code) (told_at t place) (told_at-part t place)) e one.1 two.1;
      },
    ))
    (cases_eq i j)

-- Without numbers, no text is read.
pub text_way-none : (t : Tree) (place before : Option ℕ) (text : List ℕ) → text_way t place before text [] ≡ []
text_way-none t place before [] = refl
text_way-none t place before (code ∷ text) = refl

-- Two ways along the whole of one text.
pub whole_ways-apart : (t : Tree) (text p r : List ℕ) (place before : Option ℕ) (l m : List ToldItem)
    → l ≡ text_way t place before text p → m ≡ text_way t place before text r
    → length l ≡ length text → length m ≡ length text → length p ≡ length text → length r ≡ length text
    → (p ≡ r → ⊥) → decisions_of l ≡ decisions_of m → ⊥
whole_ways-apart t text p r place before l m is that_is long long2 all all2 other same =
    text_ways-apart t text p r place before
    (sym (ap length is) ∙ long ∙ sym all) (sym (ap length that_is) ∙ long2 ∙ sym all2) other
    (sym (ap decisions_of is) ∙ same ∙ ap decisions_of that_is)
