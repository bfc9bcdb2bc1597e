-- The order in which sets are taken doesn't matter for their letters, so sets with few ranges may come first.
use Rattle.std.proofs.Common.{Bool, List, [], ap, arith, drop, false, get_or, le_of_suc-le-suc, length, map, not, refl, subst, suc, sym, take, true, zero, ℕ, ◌&&◌, ◌++◌, ◌+◌, ◌<◌, ◌∙◌, ◌∷◌, ◌≡◌, ◌≤◌}
use Rattle.std.specs.Prelude.{if◌then◌else◌, nat_le, nat_lt}
use Rattle.std.proofs.Math.Bool.{beq}
use Rattle.std.proofs.lemmas.Bool.{and_parts}
use Rattle.std.proofs.lemmas.List.{append_assoc, take-append-drop, take_more}
use Rattle.rl_ranges.proofs.FirstsLemmas.{firsts-congr, place-same}
use Rattle.rl_ranges.proofs.LetterLemmas.{alike-append, alike-push, classes-append, classes-firsts}
use Rattle.rl_ranges.specs.Codes.{has}
use Rattle.rl_ranges.specs.Letters.{alike, classes, place_where}
use Rattle.rl_ranges.specs.Numbering.{firsts}
use Rattle.rl_ranges.specs.internal.Splitting.{HasTooMany, NumbersLetters, RefinesLetters}
use Rattle.rl_ranges.specs.declared.letters.TheConstants.{MOST_LETTERS}
use Rattle.rl_ranges.specs.internal.Order.{is_taken, picked}
use Rattle.rl_ranges.specs.declared.letters.Pass.TheVariants.{Middle, Narrow, Wide}

swap : (a b c : Bool) → (a && (b && c)) ≡ (b && (a && c))
swap true b c = refl
swap false true c = refl
swap false false c = refl

to_front : (a b c x : Bool) → (((x && a) && b) && c) ≡ (x && ((a && b) && c))
to_front a b c true = refl
to_front a b c false = refl

second_to_front : (a b c x : Bool) → ((a && (x && b)) && c) ≡ (x && ((a && b) && c))
second_to_front a b c true = refl
second_to_front true b c false = refl
second_to_front false b c false = refl

-- The sets in the order of the passes.
abbrev pub in_passes : List (List (ℕ × ℕ)) → List (ℕ → Bool)
in_passes sets = (picked (is_taken Narrow) sets ++ picked (is_taken Middle) sets) ++ picked (is_taken Wide) sets

pub alike-order : (sets : List (List (ℕ × ℕ))) (c d : ℕ) → alike (in_passes sets) c d ≡ alike (map has sets) c d
alike-order [] c d = refl
alike-order (s ∷ sets) c d =
    step (picked (is_taken Narrow) sets) (picked (is_taken Middle) sets) (picked (is_taken Wide) sets) (nat_le (length s) 32) (nat_lt 256 (length s))
    ∙ ap (λ b. beq (has s c) (has s d) && b)
    (sym (apart (picked (is_taken Narrow) sets) (picked (is_taken Middle) sets) (picked (is_taken Wide) sets)) ∙ alike-order sets c d)
  where
    apart : (xs ys zs : List (ℕ → Bool)) → alike ((xs ++ ys) ++ zs) c d ≡ ((alike xs c d && alike ys c d) && alike zs c d)
    apart xs ys zs = alike-append (xs ++ ys) zs c d ∙ ap (λ b. b && alike zs c d) (alike-append xs ys c d)

    step : (xs ys zs : List (ℕ → Bool)) (narrow wide : Bool)
        → alike (((if narrow then (has s ∷ xs) else xs) ++ (if not narrow && not wide then (has s ∷ ys) else ys)) ++ (if not narrow && wide then (has s ∷ zs) else zs)) c d
        ≡ (beq (has s c) (has s d) && ((alike xs c d && alike ys c d) && alike zs c d))
    step xs ys zs true wide = apart (has s ∷ xs) ys zs ∙ to_front (alike xs c d) (alike ys c d) (alike zs c d) (beq (has s c) (has s d))
    step xs ys zs false false = apart xs (has s ∷ ys) zs ∙ second_to_front (alike xs c d) (alike ys c d) (alike zs c d) (beq (has s c) (has s d))
    step xs ys zs false true = apart xs ys (has s ∷ zs) ∙ swap (alike xs c d && alike ys c d) (beq (has s c) (has s d)) (alike zs c d)

pub NumbersLetters-congr : (xs ys : List (ℕ → Bool)) (n : ℕ) (stretches : List (ℕ × ℕ)) (least : List ℕ) → ((c d : ℕ) → alike xs c d ≡ alike ys c d) → NumbersLetters stretches least xs n → NumbersLetters stretches least ys n
NumbersLetters-congr xs ys n stretches least e t =
    let same : firsts (alike xs) n ≡ firsts (alike ys) n = firsts-congr (alike xs) (alike ys) n (λ c d hc hd. e c d) in
    record {
      covers = t.covers;
      below = t.below;
      few = t.few;
      same_firsts = t.same_firsts ∙ same;
      same_number = λ c c_in. t.same_number c c_in ∙ (ap (place_where (alike xs c)) same
          ∙ place-same (alike xs c) (alike ys c) (firsts (alike ys) n) (λ k k_in. e c (get_or (firsts (alike ys) n) k 0)));
    }

pub many-congr : (xs ys : List (ℕ → Bool)) (n : ℕ) → ((c d : ℕ) → alike xs c d ≡ alike ys c d) → MOST_LETTERS < length (classes xs n) → MOST_LETTERS < length (classes ys n)
many-congr xs ys n e many =
    omega (arith, many, ap length (classes-firsts xs n), ap length (classes-firsts ys n), ap length (firsts-congr (alike xs) (alike ys) n (λ c d hc hd. e c d)))

-- The sets that are picked from two lists.
pub picked-append : (taken : List (ℕ × ℕ) → Bool) (xs ys : List (List (ℕ × ℕ))) → picked taken (xs ++ ys) ≡ picked taken xs ++ picked taken ys
picked-append taken [] ys = refl
picked-append taken (s ∷ xs) ys = step (taken s) (picked-append taken xs ys)
  where
    step : (b : Bool) → picked taken (xs ++ ys) ≡ picked taken xs ++ picked taken ys → (if b then (has s ∷ picked taken (xs ++ ys)) else picked taken (xs ++ ys)) ≡ (if b then (has s ∷ picked taken xs) else picked taken xs) ++ picked taken ys
    step true old = ap (λ l. has s ∷ l) old
    step false old = old

-- One more set, whether it is picked or not.
picked-last : (taken : List (ℕ × ℕ) → Bool) (b : Bool) (xs : List (List (ℕ × ℕ))) (s : List (ℕ × ℕ)) → taken s ≡ b → picked taken (xs ++ s ∷ []) ≡ picked taken xs ++ (if b then (has s ∷ []) else [])
picked-last taken b xs s is = picked-append taken xs (s ∷ []) ∙ ap (λ b. picked taken xs ++ (if b then (has s ∷ []) else [])) is

-- The sets up to an index.
next-sets : (sets : List (List (ℕ × ℕ))) (k : ℕ) (s : List (ℕ × ℕ)) → k < length sets → s ≡ get_or sets k s → take (k + 1) sets ≡ take k sets ++ s ∷ []
next-sets sets k s lt is = take_more sets k s lt ∙ ap (λ x. take k sets ++ x ∷ []) (sym is)

pub picked-more : (taken : List (ℕ × ℕ) → Bool) (sets : List (List (ℕ × ℕ))) (k : ℕ) (s : List (ℕ × ℕ)) → k < length sets → s ≡ get_or sets k s → taken s ≡ true
    → picked taken (take (k + 1) sets) ≡ picked taken (take k sets) ++ has s ∷ []
picked-more taken sets k s lt at is =
    ap (picked taken) (next-sets sets k s lt at) ∙ picked-last taken true (take k sets) s is

pub picked-passed : (taken : List (ℕ × ℕ) → Bool) (sets : List (List (ℕ × ℕ))) (k : ℕ) (s : List (ℕ × ℕ)) → k < length sets → s ≡ get_or sets k s → taken s ≡ false
    → picked taken (take (k + 1) sets) ≡ picked taken (take k sets)
picked-passed taken sets k s lt at isnt =
    ap (picked taken) (next-sets sets k s lt at) ∙ picked-last taken false (take k sets) s isnt ∙ append-none (picked taken (take k sets))
  where
    append-none : (l : List (ℕ → Bool)) → l ++ [] ≡ l
    append-none [] = refl
    append-none (x ∷ l) = ap (λ z. x ∷ z) (append-none l)

pub picked-rest : (taken : List (ℕ × ℕ) → Bool) (sets : List (List (ℕ × ℕ))) (k : ℕ) → picked taken (take k sets) ++ picked taken (drop k sets) ≡ picked taken sets
picked-rest taken sets k = sym (picked-append taken (take k sets) (drop k sets)) ∙ ap (picked taken) (take-append-drop k sets)

-- A set that occurs among those already picked splits nothing.
pub picked-splits : (taken : List (ℕ × ℕ) → Bool) (sets : List (List (ℕ × ℕ))) (k n : ℕ) (s : List (ℕ × ℕ)) (c d : ℕ) → k < n → n ≤ length sets → get_or sets k [] ≡ s → taken s ≡ true
    → alike (picked taken (take n sets)) c d ≡ true → beq (has s c) (has s d) ≡ true
picked-splits taken [] k n s c d kn n_in at is h = absurd (omega arith)
picked-splits taken (x ∷ sets) k zero s c d kn n_in at is h = absurd (omega arith)
picked-splits taken (x ∷ sets) zero (suc n) s c d kn n_in at is h =
    let known : alike (has x ∷ picked taken (take n sets)) c d ≡ true =
    subst (λ b. alike (if b then (has x ∷ picked taken (take n sets)) else picked taken (take n sets)) c d ≡ true) (ap (λ y. taken y) at ∙ is) h in
    subst (λ y. beq (has y c) (has y d) ≡ true) at (and_parts (beq (has x c) (has x d)) (alike (picked taken (take n sets)) c d) known).0
picked-splits taken (x ∷ sets) (suc k) (suc n) s c d kn n_in at is h =
    picked-splits taken sets k n s c d (le_of_suc-le-suc kn) (le_of_suc-le-suc n_in) at is (rest (taken x) h)
  where
    rest : (b : Bool) → alike (if b then (has x ∷ picked taken (take n sets)) else picked taken (take n sets)) c d ≡ true → alike (picked taken (take n sets)) c d ≡ true
    rest true all = (and_parts (beq (has x c) (has x d)) (alike (picked taken (take n sets)) c d) all).1
    rest false all = all

-- One more set that splits nothing.
alike-known : (xs : List (ℕ → Bool)) (s : ℕ → Bool) (c d : ℕ) → (alike xs c d ≡ true → beq (s c) (s d) ≡ true) → alike (xs ++ s ∷ []) c d ≡ alike xs c d
alike-known xs s c d h = alike-push xs s c d ∙ step (alike xs c d) (beq (s c) (s d)) h
  where
    step : (a b : Bool) → (a ≡ true → b ≡ true) → (a && b) ≡ a
    step true b h = h refl
    step false b h = refl

pub tells-known : (more : List (ℕ → Bool)) (s : ℕ → Bool) (n : ℕ) (a b : List (ℕ × ℕ)) (j k : List ℕ) → ((c d : ℕ) → alike more c d ≡ true → beq (s c) (s d) ≡ true)
    → RefinesLetters a j b k more n → RefinesLetters a j b k (more ++ s ∷ []) n
tells-known more s n a b j k splits told sets t =
    let known : (c d : ℕ) → alike (sets ++ more) c d ≡ alike ((sets ++ more) ++ s ∷ []) c d =
    λ c d. sym (alike-known (sets ++ more) s c d (λ h. splits c d (and_parts (alike sets c d) (alike more c d) (sym (alike-append sets more c d) ∙ h)).1)) in
    subst (λ x. NumbersLetters b k x n) (append_assoc sets more (s ∷ [])) (NumbersLetters-congr (sets ++ more) ((sets ++ more) ++ s ∷ []) n b k known (told sets t))

-- No more sets.
pub tells-none : (n : ℕ) (a : List (ℕ × ℕ)) (j : List ℕ) → RefinesLetters a j a j [] n
tells-none n a j sets t = subst (λ x. NumbersLetters a j x n) (sym (append-none sets)) t
  where
    append-none : (l : List (ℕ → Bool)) → l ++ [] ≡ l
    append-none [] = refl
    append-none (x ∷ l) = ap (λ z. x ∷ z) (append-none l)

-- A numbering that is refined twice.
pub tells-more : (more most : List (ℕ → Bool)) (n : ℕ) (a b c : List (ℕ × ℕ)) (j k l : List ℕ) → RefinesLetters a j b k more n → RefinesLetters b k c l most n → RefinesLetters a j c l (more ++ most) n
tells-more more most n a b c j k l one two sets t = subst (λ x. NumbersLetters c l x n) (append_assoc sets more most) (two (sets ++ more) (one sets t))

pub many-later : (more most : List (ℕ → Bool)) (n : ℕ) (a b : List (ℕ × ℕ)) (j k : List ℕ) → RefinesLetters a j b k more n → HasTooMany b k most n → HasTooMany a j (more ++ most) n
many-later more most n a b j k one two sets t = subst (λ x. MOST_LETTERS < length (classes x n)) (append_assoc sets more most) (two (sets ++ more) (one sets t))

-- Still more sets have no fewer letters.
pub many-more : (more most : List (ℕ → Bool)) (n : ℕ) (a : List (ℕ × ℕ)) (j : List ℕ) → HasTooMany a j more n → HasTooMany a j (more ++ most) n
many-more more most n a j many sets t =
    subst (λ x. MOST_LETTERS < length (classes x n)) (append_assoc sets more most) (omega (arith, many sets t, classes-append (sets ++ more) most n))
