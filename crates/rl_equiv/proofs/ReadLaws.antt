-- Laws of the words of texts: the set pair that a text leads to says which of the trees match the text.
use Rattle.std.proofs.Common.{◌≡◌, ◌∙◌, ℕ, ◌<◌, List, [], ◌∷◌, ◌++◌, length, map, slice_get, Some, All, Bool, true, false, not, refl, sym, ap, ap₂, subst, arith}
use Rattle.std.proofs.lemmas.Bool.{false≢true}
use Rattle.std.proofs.lemmas.List.{length-map}
use Rattle.std.proofs.lemmas.List.Elements.{All-nil, All-cons, All-head, All-tail}
use Rattle.std.proofs.lemmas.Option.{slice_get_within, slice_get-get_or, get_or_from_slice_get}
use Rattle.rl_ranges.specs.declared.universe.Universe.{Universe}
use Rattle.rl_ranges.specs.Letters.{classes, class_of, letter_at}
use Rattle.rl_ranges.specs.Text.{code_count, IsText}
use Rattle.rl_ranges.proofs.LetterLemmas.{class_of-lt}
use Rattle.rl_syntax.specs.declared.re.Ending.TheVariants.{AtEnd}
use Rattle.rl_syntax.specs.Tree.{Tree}
use Rattle.rl_syntax.specs.Cost.{matched}
use Rattle.rl_prio.specs.Letters.{all_sets}
use Rattle.rl_prio.specs.Automaton.{Automaton, letters_count}
use Rattle.rl_prio.specs.Walk.{word_at}
use Rattle.rl_prio.proofs.LikenessLemmas.{Finer-first, Finer-second}
use Rattle.rl_sets.specs.Live.{below, image, refuses}
use Rattle.rl_sets.proofs.LiveLemmas.{refuses-image, refuses-nothing}
use Rattle.rl_equiv.specs.declared.pair.SetPair.{SetPair}
use Rattle.rl_equiv.specs.SetPairs.{joint_sets, first_pair, SetPairs, set_pairs, word_of}
use Rattle.rl_equiv.specs.Numbering.{Reads, stay, onward}
use Rattle.rl_equiv.specs.Joined.{StandTogether}
use Rattle.rl_equiv.specs.internal.Machines.{pair_on, pairs_of}
use Rattle.rl_equiv.specs.internal.Searching.{AreReaders}
use Rattle.rl_equiv.proofs.ImageLaws.{length-below, get_or-below, pairs_of-trees}
use Rattle.rl_equiv.proofs.ClosedLaws.{proper-free, first-proper, second-proper, letters-same, matched-refuses}
use Rattle.rl_equiv.proofs.RunLaws.{first-proper', next-proper}
use Rattle.rl_equiv.proofs.ReaderLaws.{are-readers}

next-at : (a b : Automaton) (p : SetPair) (letter : ℕ) → letter < letters_count a → slice_get ((pairs_of a b).nexts p) letter ≡ Some (pair_on a b p letter)
unfolding pairs_of
next-at a b p letter lt =
    slice_get-get_or (map (pair_on a b p) (below (letters_count a))) letter first_pair (omega (arith, length-map (below (letters_count a)) (pair_on a b p), length-below (letters_count a)))
    ∙ ap (λ (q : SetPair). Some q) (get_or-below (pair_on a b p) (letters_count a) letter first_pair lt)

next-small : (a b : Automaton) (p q : SetPair) (letter : ℕ) → slice_get ((pairs_of a b).nexts p) letter ≡ Some q → letter < letters_count a
unfolding pairs_of
next-small a b p q letter e =
    omega (arith, slice_get_within (map (pair_on a b p) (below (letters_count a))) letter q e, length-map (below (letters_count a)) (pair_on a b p), length-below (letters_count a))

next-is : (a b : Automaton) (p q : SetPair) (letter : ℕ) → slice_get ((pairs_of a b).nexts p) letter ≡ Some q → pair_on a b p letter ≡ q
next-is a b p q letter e =
    sym (get_or_from_slice_get ((pairs_of a b).nexts p) letter (pair_on a b p letter) first_pair (next-at a b p letter (next-small a b p q letter e)))
    ∙ get_or_from_slice_get ((pairs_of a b).nexts p) letter q first_pair e

-- What a word that leads from one set pair to another gives.
pub record IsRead (a b : Automaton) (p : SetPair) (word : List ℕ) (q : SetPair) : Type 0 where
  pub is_proper : (pairs_of a b).proper q ≡ true
  pub small : All (λ letter. letter < letters_count a) word
  pub first : (tail : List ℕ) → refuses a p.first (word ++ tail) ≡ refuses a q.first tail
  pub second : (tail : List ℕ) → refuses b p.second (word ++ tail) ≡ refuses b q.second tail

module _ (a b : Automaton) (readers : AreReaders a b) where
  pub read-is : (p q : SetPair) (word : List ℕ) → (pairs_of a b).proper p ≡ true → Reads (pairs_of a b) p word q → IsRead a b p word q
  read-is p _ _ proper stay = record { is_proper = proper; small = All-nil (λ letter. letter < letters_count a); first = λ tail. refl; second = λ tail. refl }
  read-is p q _ proper (onward {q = m} {letter = letter} {word = word} e more) =
      let small = next-small a b p m letter e in
      let is = next-is a b p m letter e in
      let there : (pairs_of a b).proper m ≡ true = subst (λ (x : SetPair). (pairs_of a b).proper x ≡ true) is (next-proper a b readers p letter small) in
      let r = read-is m q word there more in
      record {
        is_proper = r.is_proper;
        small = All-cons (λ l. l < letters_count a) letter word small r.small;
        first = λ tail.
            refuses-image a readers.first_reads.whole p.first letter (word ++ tail) (proper-free a p.first (first-proper a b p proper))
            ∙ ap (λ (x : SetPair). refuses a x.first (word ++ tail)) is
            ∙ r.first tail;
        second = λ tail.
            refuses-image b readers.second_reads.whole p.second letter (word ++ tail) (proper-free b p.second (second-proper a b p proper))
            ∙ ap (λ (x : SetPair). refuses b x.second (word ++ tail)) is
            ∙ r.second tail;
      }

  pub first-end : (p : SetPair) → (pairs_of a b).proper p ≡ true → refuses a p.first (letters_count a ∷ []) ≡ not ((pairs_of a b).ends_first p)
  unfolding pairs_of
  first-end p proper =
      refuses-image a readers.first_reads.whole p.first (letters_count a) [] (proper-free a p.first (first-proper a b p proper))
      ∙ refuses-nothing a (image a p.first (letters_count a))

  pub second-end : (p : SetPair) → (pairs_of a b).proper p ≡ true → refuses b p.second (letters_count b ∷ []) ≡ not ((pairs_of a b).ends_second p)
  unfolding pairs_of
  second-end p proper =
      refuses-image b readers.second_reads.whole p.second (letters_count b) [] (proper-free b p.second (second-proper a b p proper))
      ∙ refuses-nothing b (image b p.second (letters_count b))

-- A word of letters leads to some set pair.
pub small-leads : (a b : Automaton) (p : SetPair) (word : List ℕ) → All (λ letter. letter < letters_count a) word → (q : SetPair) × Reads (pairs_of a b) p word q
small-leads a b p [] small = (p, stay)
small-leads a b p (letter ∷ word) small =
    let more = small-leads a b (pair_on a b p letter) word (All-tail (λ l. l < letters_count a) letter word small) in
    (more.0, onward (next-at a b p letter (All-head (λ l. l < letters_count a) letter word small)) more.1)

not-same : (x y : Bool) → not x ≡ not y → x ≡ y
not-same true true e = refl
not-same true false e = absurd (false≢true e)
not-same false true e = absurd (false≢true (sym e))
not-same false false e = refl

module _ (u : Universe) (s t : Tree) (a b : Automaton) (st : StandTogether u s t a b) where
  word-letters : (w : List ℕ) → IsText u w → map (letter_at a.table) w ≡ word_of u s t w
  word-letters [] text = refl
  word-letters (c ∷ w) text =
      let lt = All-head (λ x. x < code_count u) c w text in
      ap₂ (λ (l : ℕ) (ls : List ℕ). l ∷ ls)
      (st.first_stands.same_letters.same_letter c (omega (arith, st.first_codes)) ∙ ap (λ (n : ℕ). class_of (joint_sets s t) n c) st.first_codes)
      (word-letters w (All-tail (λ x. x < code_count u) c w text))

  word-small : (w : List ℕ) → IsText u w → All (λ l. l < letters_count a) (word_of u s t w)
  word-small [] text = All-nil (λ l. l < letters_count a)
  word-small (c ∷ w) text =
      let lt = All-head (λ x. x < code_count u) c w text in
      let less = class_of-lt (joint_sets s t) (code_count u) c lt in
      let count = st.first_stands.same_letters.same_count in
      All-cons (λ l. l < letters_count a) (class_of (joint_sets s t) (code_count u) c) (word_of u s t w)
      (subst (λ (n : ℕ). class_of (joint_sets s t) (code_count u) c < n) (sym (first-count)) less)
      (word-small w (All-tail (λ x. x < code_count u) c w text))
    where
      first-count : letters_count a ≡ length (classes (joint_sets s t) (code_count u))
      first-count = st.first_stands.same_letters.same_count ∙ ap (λ (n : ℕ). length (classes (joint_sets s t) n)) st.first_codes

  leads-there : (w : List ℕ) → IsText u w → (q : SetPair) × Reads (pairs_of a b) first_pair (word_of u s t w) q
  leads-there w text = small-leads a b first_pair (word_of u s t w) (word-small w text)

  told-there : (w : List ℕ) → IsText u w → (q : SetPair) → Reads (pairs_of a b) first_pair (word_of u s t w) q
      → ((pairs_of a b).ends_first q ≡ matched s AtEnd w) × ((pairs_of a b).ends_second q ≡ matched t AtEnd w)
  told-there w text q reads =
      let readers = are-readers u s t a b st in
      let r = read-is a b readers first_pair q (word_of u s t w) (first-proper' a b readers) reads in
      let first_word : word_at a w ≡ word_of u s t w ++ letters_count a ∷ [] = ap (λ (l : List ℕ). l ++ letters_count a ∷ []) (word-letters w text) in
      let second_word : word_at b w ≡ word_of u s t w ++ letters_count b ∷ [] = ap (λ (l : List ℕ). l ++ letters_count b ∷ []) (sym (letters-same u s t a b st w text) ∙ word-letters w text) in
      let first = matched-refuses u s a (joint_sets s t) st.first_whole st.first_stands (Finer-first (all_sets s) (all_sets t)) st.first_codes w text in
      let second = matched-refuses u t b (joint_sets s t) st.second_whole st.second_stands (Finer-second (all_sets s) (all_sets t)) st.second_codes w text in (
        not-same ((pairs_of a b).ends_first q) (matched s AtEnd w) (sym (first-end a b readers q r.is_proper) ∙ sym (r.first (letters_count a ∷ [])) ∙ ap (refuses a (0 ∷ [])) (sym first_word) ∙ first),
        not-same ((pairs_of a b).ends_second q) (matched t AtEnd w) (sym (second-end a b readers q r.is_proper) ∙ sym (r.second (letters_count b ∷ [])) ∙ ap (refuses b (0 ∷ [])) (sym second_word) ∙ second),
      )

  pub text-leads : (w : List ℕ) → IsText u w → (q : SetPair) × Reads (set_pairs u s t) first_pair (word_of u s t w) q
  text-leads w text = subst (λ (d : SetPairs). (q : SetPair) × Reads d first_pair (word_of u s t w) q) (pairs_of-trees u s t a b st) (leads-there w text)

  pub text-told : (w : List ℕ) → IsText u w → (q : SetPair) → Reads (set_pairs u s t) first_pair (word_of u s t w) q
      → ((set_pairs u s t).ends_first q ≡ matched s AtEnd w) × ((set_pairs u s t).ends_second q ≡ matched t AtEnd w)
  text-told w text = subst (λ (d : SetPairs). (q : SetPair) → Reads d first_pair (word_of u s t w) q → (d.ends_first q ≡ matched s AtEnd w) × (d.ends_second q ≡ matched t AtEnd w)) (pairs_of-trees u s t a b st) (told-there w text)
