-- Lemmas about the words of a row after they have been written.
use Rattle.std.proofs.Common.{◌≡◌, ℕ, ◌+◌, ◌/◌, ◌%◌, ◌^◌, ◌<◌, ◌≤◌, Option, Some, None, IfSome, IfNone, Bool, true, false, not, ◌&&◌, ◌↔◌, ◌≢◌, cond, eqb, List, ◌++◌, length, get_or, set, take, drop, replicate, refl, sym, ap, ◌∙◌, subst, arith, bit_and, IsTrue, MatchBool}
use Rattle.std.specs.Bool.{OnFalse}
use Rattle.std.specs.List.{refill}
use Rattle.std.specs.Simd.Lanes.{zip2}
use Rattle.std.proofs.Math.Seq.{take-append_seam}
use Rattle.std.proofs.lemmas.List.{length-set}
use Rattle.std.proofs.lemmas.Simd.{length-replicate}
use Rattle.std.specs.Int.{bit_at, div_ceil}
use Rattle.std.proofs.lemmas.Bool.{and_parts, both_ways, not-true, not-false, false≢true, eq-eqb, ne_eqb}
use Rattle.std.proofs.lemmas.Nat.{and_le_l}
use Rattle.rl_lanes.specs.Rows.{Meets, AreApart, IsSubset, HasOther, NoneFrom, IsLeastFrom}
use Rattle.rl_lanes.specs.internal.Words.{JoinsEach, SomePair, NoPair, and_not}
use Rattle.rl_lanes.specs.Packed.{bit, words_of}
use Rattle.rl_lanes.specs.internal.PackedWords.{NoBitFrom, IsLeastBitFrom}
use Rattle.rl_lanes.proofs.PackedLemmas.{AreWords, IsRow, IsRow-length, IsRow-words, IsRow-joined, IsRow-get_or, IsRow-set, IsRow-zeros, JoinsBits, JoinsBits-and, JoinsBits-and_not, place_from_pair, no_place_from_pairs}
use Rattle.rl_lanes.proofs.RowLemmas.{place_within}
use Rattle.rl_lanes.proofs.CountLemmas.{IsRow-words_of, AreWords-words_of}

-- Replacing all words by the same number of new words gives the new words.
refill_is : (held new : List ℕ) → length new ≡ length held → refill (length held) held new ≡ new
refill_is held new long = ap (λ n. take n (new ++ drop (length new) held)) (sym long) ∙ take-append_seam new (drop (length new) held)

-- The word of a place is one of the row's words.
pub place_fits : {len : ℕ} {words : List ℕ} {row : List Bool} (i : ℕ) → IsRow len words row → i < length row → i / 64 < length words
place_fits i r lt = omega (arith, r.packed.enough, IsRow-length r)

-- Stores the words `a` of a row, combined by `f` with the words `b` of another.
pub IsRow-stored : (f : ℕ → ℕ → ℕ) (t : Bool → Bool → Bool) (law : JoinsBits f t) (m n : ℕ) (held a b words new : List ℕ) (x y : List Bool) → IsRow m held x → IsRow n words y → length x ≡ length y → a ≡ held → b ≡ words → AreWords b → JoinsEach f a b new → IsRow m (refill (length held) held new) (zip2 t x y)
IsRow-stored f t law m n held a b words new x y r s same a_is b_is fits joined =
    let joined_b : JoinsEach f held words new = subst (λ l. JoinsEach f l words new) a_is (subst (λ l. JoinsEach f a l new) b_is joined) in
    let fit : AreWords words = subst AreWords b_is fits in
    subst (λ ws. IsRow m ws (zip2 t x y)) (sym (refill_is held new joined_b.long)) (IsRow-joined f t law r s same fit joined_b)

-- Whether two rows share a place, decided by their words `a` and `b`.
pub meets_is : (x y : List Bool) (a b : List ℕ) (some : Bool) → length x ≡ length y → a ≡ words_of x → b ≡ words_of y → MatchBool some (SomePair bit_and a b) (NoPair bit_and a b) → (IsTrue some ↔ Meets x y) × OnFalse some (AreApart x y)
meets_is x y a b some same a_is b_is pairs = cases some pairs
  where
    r : IsRow (length x) (words_of x) x
    r = IsRow-words_of x

    s : IsRow (length y) (words_of y) y
    s = IsRow-words_of y

    fits_a : AreWords a
    fits_a = subst AreWords (sym a_is) (AreWords-words_of x)

    fits_b : AreWords b
    fits_b = subst AreWords (sym b_is) (AreWords-words_of y)

    at_x : (i : ℕ) → get_or x i false ≡ bit a i
    at_x i = IsRow-get_or r i ∙ ap (λ l. bit l i) (sym a_is)

    at_y : (i : ℕ) → get_or y i false ≡ bit b i
    at_y i = IsRow-get_or s i ∙ ap (λ l. bit l i) (sym b_is)

    long : length a ≡ length b
    long = ap length a_is ∙ IsRow-words r s same ∙ sym (ap length b_is)

    cases : (b' : Bool) → MatchBool b' (SomePair bit_and a b) (NoPair bit_and a b) → (IsTrue b' ↔ Meets x y) × OnFalse b' (AreApart x y)
    cases true pair =
        let place = place_from_pair bit_and (λ p q. p && q) a b JoinsBits-and fits_b and_le_l fits_a pair in
        let both = and_parts (bit a place.0) (bit b place.0) place.1 in
        ((λ _. (place.0, at_x place.0 ∙ both.0, at_y place.0 ∙ both.1), λ _. refl), tt)
    cases false none =
        let apart : AreApart x y = λ i in_x. at_y i ∙ sym (ap (λ p. p && bit b i) (sym (at_x i) ∙ in_x)) ∙ no_place_from_pairs bit_and (λ p q. p && q) a b JoinsBits-and long fits_b none i in
        ((λ h. absurd (false≢true h), λ h. absurd (both_ways (get_or y h.0 false) (apart h.0 h.1) h.2)), apart)

-- Whether a row is a subset of another, decided by their words `a` and `b`.
pub is_subset_is : (x y : List Bool) (a b : List ℕ) (some : Bool) → length x ≡ length y → a ≡ words_of x → b ≡ words_of y → MatchBool some (SomePair and_not a b) (NoPair and_not a b) → (IsTrue (not some) ↔ IsSubset x y) × OnFalse (not some) (HasOther x y)
is_subset_is x y a b some same a_is b_is pairs = cases some pairs
  where
    r : IsRow (length x) (words_of x) x
    r = IsRow-words_of x

    s : IsRow (length y) (words_of y) y
    s = IsRow-words_of y

    fits_a : AreWords a
    fits_a = subst AreWords (sym a_is) (AreWords-words_of x)

    fits_b : AreWords b
    fits_b = subst AreWords (sym b_is) (AreWords-words_of y)

    at_x : (i : ℕ) → get_or x i false ≡ bit a i
    at_x i = IsRow-get_or r i ∙ ap (λ l. bit l i) (sym a_is)

    at_y : (i : ℕ) → get_or y i false ≡ bit b i
    at_y i = IsRow-get_or s i ∙ ap (λ l. bit l i) (sym b_is)

    long : length a ≡ length b
    long = ap length a_is ∙ IsRow-words r s same ∙ sym (ap length b_is)

    cases : (b' : Bool) → MatchBool b' (SomePair and_not a b) (NoPair and_not a b) → (IsTrue (not b') ↔ IsSubset x y) × OnFalse (not b') (HasOther x y)
    cases true pair =
        let place = place_from_pair and_not (λ p q. p && not q) a b JoinsBits-and_not fits_b (λ p q. and_le_l p _) fits_a pair in
        let both = and_parts (bit a place.0) (not (bit b place.0)) place.1 in
        let other : HasOther x y = (place.0, at_x place.0 ∙ both.0, at_y place.0 ∙ not-true (bit b place.0) both.1) in
        ((λ h. absurd (false≢true h), λ h. absurd (both_ways (get_or y other.0 false) other.2 (h other.0 other.1))), other)
    cases false none =
        ((λ _ i in_x. at_y i ∙ not-false (bit b i) (sym (ap (λ p. p && not (bit b i)) (sym (at_x i) ∙ in_x)) ∙ no_place_from_pairs and_not (λ p q. p && not q) a b JoinsBits-and_not long fits_b none i), λ _. refl), tt)

-- The result of testing a bit.
pub bit_test_is : (b : Bool) (n : ℕ) → IsTrue b ↔ (n ≡ 1) → b ≡ eqb n 1
bit_test_is true n tells = sym (eq-eqb n 1 (tells.0 refl))
bit_test_is false n tells = sym (ne_eqb n 1 (λ e. false≢true (tells.1 e)))

-- The value at a place, decided by testing its bit in the words `a` of the row.
pub IsRow-test : {len : ℕ} {words : List ℕ} {row : List Bool} (i : ℕ) (b : Bool) (a : List ℕ) → IsRow len words row → a ≡ words → IsTrue b ↔ (bit_at (get_or a (i / 64) 0) (i % 64) ≡ 1) → b ≡ get_or row i false
unfolding bit
IsRow-test i b a r a_is tells = bit_test_is b (bit_at (get_or a (i / 64) 0) (i % 64)) tells ∙ ap (λ l. bit l i) a_is ∙ sym (IsRow-get_or r i)

-- Stores the words `a` of a row after replacing one of them.
pub set_is : (words a : List ℕ) (i word : ℕ) → a ≡ words → refill (length words) words (set a i word) ≡ set words i word
set_is words a i word a_is = refill_is words (set a i word) (length-set a i word ∙ ap length a_is) ∙ ap (λ l. set l i word) a_is

-- A row after setting the value at a place, given the word that replaces the one in the words `a` of the row.
pub IsRow-put : {len : ℕ} {words : List ℕ} {row : List Bool} (i word : ℕ) (to : Bool) (a : List ℕ) → IsRow len words row → i < length row → a ≡ words → bit_at word (i % 64) ≡ cond to 1 0 → ((k : ℕ) → k < 64 → k ≢ i % 64 → bit_at word k ≡ bit_at (get_or a (i / 64) 0) k) → IsRow len (refill (length words) words (set a (i / 64) word)) (set row i to)
IsRow-put {len} {words} {row} i word to a r lt a_is at others =
    subst (λ ws. IsRow len ws (set row i to)) (sym (set_is words a (i / 64) word a_is))
    (IsRow-set i word to r lt at (λ k small other. others k small other ∙ ap (λ l. bit_at (get_or l (i / 64) 0) k) a_is))

-- A row after setting all its words to 0.
pub IsRow-cleared : {len : ℕ} {words : List ℕ} {row : List Bool} (a new : List ℕ) → IsRow len words row → a ≡ words → new ≡ replicate (length a) 0 → IsRow len (refill (length words) words new) (replicate (length row) false)
IsRow-cleared {len} {words} {row} a new r a_is filled =
    let long : length a ≡ div_ceil len 64 = ap length a_is ∙ r.packed.enough in
    let new_is : new ≡ replicate (div_ceil len 64) 0 = filled ∙ ap (λ n. replicate n 0) long in
    let new_long : length new ≡ length words = ap length filled ∙ length-replicate (length a) 0 ∙ ap length a_is in
    subst (λ ws. IsRow len ws (replicate (length row) false)) (sym (refill_is words new new_long ∙ new_is))
    (subst (λ n. IsRow len (replicate (div_ceil len 64) 0) (replicate n false)) (sym (IsRow-length r)) (IsRow-zeros len))

-- The next place that is true in the words `a` of a row is the next one of the row.
pub least_is : {len : ℕ} {words : List ℕ} {row : List Bool} (start : ℕ) (a : List ℕ) (o : Option ℕ) → IsRow len words row → a ≡ words → IfSome o (IsLeastBitFrom a start) → IfSome o (IsLeastFrom row start)
least_is start a None r a_is h = tt
least_is {len} {words} {row} start a (Some least) r a_is h =
    let at : (k : ℕ) → get_or row k false ≡ bit a k = λ k. IsRow-get_or r k ∙ ap (λ l. bit l k) (sym a_is) in
    record { after = h.after; within = place_within _ least (at least ∙ h.member); member = at least ∙ h.member; before = λ k ge lt. at k ∙ h.before k ge lt }

pub none_is : {len : ℕ} {words : List ℕ} {row : List Bool} (start : ℕ) (a : List ℕ) (o : Option ℕ) → IsRow len words row → a ≡ words → IfNone o (NoBitFrom a start) → IfNone o (NoneFrom row start)
none_is {len} {words} {row} start a None r a_is h = λ k ge. IsRow-get_or r k ∙ ap (λ l. bit l k) (sym a_is) ∙ h k ge
none_is start a (Some least) r a_is h = tt

pub none_past : {len : ℕ} {words : List ℕ} {row : List Bool} (start : ℕ) → IsRow len words row → len ≤ start → NoneFrom row start
none_past start r past k ge = IsRow-get_or r k ∙ r.packed.clear k (omega arith)

-- The place after the one that was found fits in 64 bits, because the length does.
pub next_fits : {len : ℕ} {words : List ℕ} {row : List Bool} (start : ℕ) (a : List ℕ) (o : Option ℕ) → IsRow len words row → a ≡ words → IfSome o (IsLeastBitFrom a start) → len < 2 ^ 64 → IfSome o (λ least. least + 1 < 2 ^ 64)
next_fits start a None r a_is h small = tt
next_fits start a (Some least) r a_is h small =
    let found : IsLeastFrom _ start least = least_is start a (Some least) r a_is h in
    omega (arith, found.within, IsRow-length r)
