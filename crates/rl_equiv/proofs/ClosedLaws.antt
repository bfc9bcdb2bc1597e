-- If a relation is closed, two languages are equal, by induction on the text: each letter is one step of the relation.
use Rattle.std.proofs.Common.{◌≡◌, ◌∙◌, ℕ, ◌<◌, List, [], ◌∷◌, ◌++◌, map, All, Contains, Bool, true, false, not, ◌||◌, IsTrue, refl, sym, ap, ap₂, subst, arith}
use Rattle.std.proofs.Math.Bool.{beq}
use Rattle.std.proofs.lemmas.Bool.{and_parts, false≢true, ne_eqb, false_from_ne_true}
use Rattle.std.proofs.lemmas.List.{length-map}
use Rattle.std.proofs.lemmas.List.Elements.{All-cons, All-head, All-tail, All-contains}
use Rattle.rl_ranges.specs.declared.universe.Universe.{Universe}
use Rattle.rl_ranges.specs.Letters.{class_of, letter_at}
use Rattle.rl_ranges.specs.Text.{code_count, IsText}
use Rattle.rl_ranges.proofs.LetterLemmas.{beq-true, class_of-lt}
use Rattle.rl_syntax.specs.declared.re.Ending.TheVariants.{AtEnd}
use Rattle.rl_syntax.specs.Tree.{Tree}
use Rattle.rl_syntax.specs.Cost.{has_hit, matched}
use Rattle.rl_prio.specs.Letters.{all_sets}
use Rattle.rl_prio.specs.Automaton.{Automaton, IsAutomaton, letters_count, accepting_state}
use Rattle.rl_prio.specs.Walk.{walk, word_at, walk_matched}
use Rattle.rl_prio.specs.StandsFor.{StandsOver}
use Rattle.rl_prio.proofs.LikenessLemmas.{Finer, Finer-first, Finer-second}
use Rattle.rl_prio.proofs.WalkLemmas.{walk-matched_over}
use Rattle.rl_prio.proofs.MatchLemmas.{matched_to_end}
use Rattle.rl_sets.specs.Live.{accepts, below, holds, image, refuses}
use Rattle.rl_sets.proofs.AcceptLemmas.{walk-accepts}
use Rattle.rl_sets.proofs.LiveLemmas.{refuses-image, refuses-nothing}
use Rattle.rl_equiv.specs.declared.pair.SetPair.{SetPair}
use Rattle.rl_equiv.specs.SetPairs.{joint_sets, first_pair, SetPairs, differs, set_pairs, IsKept, IsClosed}
use Rattle.rl_equiv.specs.Languages.{SameLanguage}
use Rattle.rl_equiv.specs.Joined.{StandTogether}
use Rattle.rl_equiv.specs.internal.Machines.{pair_on, ends, all_proper, pairs_of}
use Rattle.rl_equiv.proofs.ImageLaws.{length-below, get_or-below, same_count, below-proper, pairs_of-trees}

pub start-accepts : (a : Automaton) → IsAutomaton a → (w : List ℕ) → walk_matched a w ≡ accepts a 0 w
start-accepts a is w =
    ap (λ b. b || has_hit (walk a 0 w)) (sym (ne_eqb 0 (accepting_state a) (λ e. omega (arith, is.three_states)))) ∙ walk-accepts a w 0

-- A proper set doesn't have the accepting state.

pub proper-free : (a : Automaton) (set : List ℕ) → all_proper a set ≡ true → holds set (accepting_state a) ≡ false
proper-free a set proper = false_from_ne_true (holds set (accepting_state a)) (λ e. let h = below-proper a set (accepting_state a) proper e in omega arith)

pub not-false : (b : Bool) → not b ≡ false → b ≡ true
not-false true h = refl
not-false false h = absurd (false≢true (sym h))

pub true-beq : (x y : Bool) → x ≡ y → beq x y ≡ true
true-beq x true e = ap (λ b. beq b true) e
true-beq x false e = ap (λ b. beq b false) e

module _ (a b : Automaton) where
  pub first-proper : (p : SetPair) → (pairs_of a b).proper p ≡ true → all_proper a p.first ≡ true
  unfolding pairs_of
  first-proper p e = (and_parts (all_proper a p.first) (all_proper b p.second) e).0

  pub second-proper : (p : SetPair) → (pairs_of a b).proper p ≡ true → all_proper b p.second ≡ true
  unfolding pairs_of
  second-proper p e = (and_parts (all_proper a p.first) (all_proper b p.second) e).1

  pub ends-same : (p : SetPair) → differs (pairs_of a b) p ≡ false → ends a p.first ≡ ends b p.second
  unfolding pairs_of
  ends-same p e = beq-true (ends a p.first) (ends b p.second) (not-false (beq (ends a p.first) (ends b p.second)) e)

  pub same-ends : (p : SetPair) → ends a p.first ≡ ends b p.second → differs (pairs_of a b) p ≡ false
  unfolding pairs_of
  same-ends p e = ap not (true-beq (ends a p.first) (ends b p.second) e)

  pub next-in : (relation : List SetPair) (p : SetPair) → All (Contains relation) ((pairs_of a b).nexts p) → (letter : ℕ) → letter < letters_count a → Contains relation (pair_on a b p letter)
  unfolding pairs_of
  next-in relation p each letter lt =
      subst (Contains relation) (get_or-below (pair_on a b p) (letters_count a) letter first_pair lt)
      (each letter first_pair (omega (arith, length-map (below (letters_count a)) (pair_on a b p), length-below (letters_count a))))

  pub in-next : (relation : List SetPair) (p : SetPair) → ((letter : ℕ) → letter < letters_count a → Contains relation (pair_on a b p letter)) → All (Contains relation) ((pairs_of a b).nexts p)
  unfolding pairs_of
  in-next relation p each k d lt =
      let small : k < letters_count a = omega (arith, length-map (below (letters_count a)) (pair_on a b p), length-below (letters_count a), lt) in
      subst (Contains relation) (sym (get_or-below (pair_on a b p) (letters_count a) k d small)) (each k small)

module _ (a b : Automaton) (first_whole : IsAutomaton a) (second_whole : IsAutomaton b) (same : letters_count a ≡ letters_count b) where
  pub kept-refuses : (relation : List SetPair) → All (IsKept (pairs_of a b) relation) relation
      → (word : List ℕ) → All (λ l. l < letters_count a) word → (p : SetPair) → Contains relation p
      → refuses a p.first (word ++ letters_count a ∷ []) ≡ refuses b p.second (word ++ letters_count b ∷ [])
  kept-refuses relation kept [] small p in' =
      let k = All-contains (IsKept (pairs_of a b) relation) relation p kept in' in
      refuses-image a first_whole p.first (letters_count a) [] (proper-free a p.first (first-proper a b p k.is_proper))
      ∙ refuses-nothing a (image a p.first (letters_count a))
      ∙ ap not (ends-same a b p k.no_difference)
      ∙ sym (refuses-nothing b (image b p.second (letters_count b)))
      ∙ sym (refuses-image b second_whole p.second (letters_count b) [] (proper-free b p.second (second-proper a b p k.is_proper)))
  kept-refuses relation kept (l ∷ word) small p in' =
      let k = All-contains (IsKept (pairs_of a b) relation) relation p kept in' in
      refuses-image a first_whole p.first l (word ++ letters_count a ∷ []) (proper-free a p.first (first-proper a b p k.is_proper))
      ∙ kept-refuses relation kept word (All-tail (λ x. x < letters_count a) l word small) (pair_on a b p l) (next-in a b relation p k.nexts_in l (All-head (λ x. x < letters_count a) l word small))
      ∙ sym (refuses-image b second_whole p.second l (word ++ letters_count b ∷ []) (proper-free b p.second (second-proper a b p k.is_proper)))

-- Texts and the words of their letters.

module _ (u : Universe) (s t : Tree) (a b : Automaton) (st : StandTogether u s t a b) where
  pub letters-same : (w : List ℕ) → IsText u w → map (letter_at a.table) w ≡ map (letter_at b.table) w
  letters-same [] text = refl
  letters-same (c ∷ w) text =
      let lt = All-head (λ x. x < code_count u) c w text in
      let sets = joint_sets s t in
      let x : letter_at a.table c ≡ class_of sets (code_count u) c = st.first_stands.same_letters.same_letter c (omega (arith, st.first_codes)) ∙ ap (λ (n : ℕ). class_of sets n c) st.first_codes in
      let y : letter_at b.table c ≡ class_of sets (code_count u) c = st.second_stands.same_letters.same_letter c (omega (arith, st.second_codes)) ∙ ap (λ (n : ℕ). class_of sets n c) st.second_codes in
      ap₂ (λ l ls. l ∷ ls) (x ∙ sym y) (letters-same w (All-tail (λ x. x < code_count u) c w text))

  letters-small : (w : List ℕ) → IsText u w → All (λ l. l < letters_count a) (map (letter_at a.table) w)
  letters-small [] text = λ k d lt. absurd (omega arith)
  letters-small (c ∷ w) text =
      let lt = All-head (λ x. x < code_count u) c w text in
      let stands = st.first_stands.same_letters in
      All-cons (λ l. l < letters_count a) (letter_at a.table c) (map (letter_at a.table) w)
      (omega (arith, stands.same_letter c (omega (arith, st.first_codes)), class_of-lt (joint_sets s t) a.table.codes c (omega (arith, st.first_codes)), stands.same_count))
      (letters-small w (All-tail (λ x. x < code_count u) c w text))

or-false : (b : Bool) → (b || false) ≡ b
or-false true = refl
or-false false = refl

-- A text is in the language of a tree exactly if the start doesn't refuse its letters.
pub refuses-start : (a : Automaton) (w : List ℕ) → refuses a (0 ∷ []) w ≡ not (accepts a 0 w)
unfolding refuses
refuses-start a w = ap not (or-false (accepts a 0 w))

pub matched-refuses : (u : Universe) (t : Tree) (a : Automaton) (sets : List (ℕ → Bool)) → IsAutomaton a → StandsOver a t AtEnd sets → Finer sets (all_sets t) → a.table.codes ≡ code_count u
    → (w : List ℕ) → IsText u w → refuses a (0 ∷ []) (word_at a w) ≡ not (matched t AtEnd w)
matched-refuses u t a sets whole stands finer codes w text =
    refuses-start a (word_at a w) ∙ ap not (sym (start-accepts a whole (word_at a w)) ∙ walk-matched_over a t AtEnd sets stands finer w (subst (λ (n : ℕ). All (λ c. c < n) w) (sym codes) text))

not-same : (x y : Bool) → not x ≡ not y → x ≡ y
not-same true true e = refl
not-same true false e = absurd (false≢true e)
not-same false true e = absurd (false≢true (sym e))
not-same false false e = refl

pub closed-same : (u : Universe) (s t : Tree) (a b : Automaton) (relation : List SetPair) → StandTogether u s t a b → IsClosed (set_pairs u s t) relation → SameLanguage u s t
closed-same u s t a b relation st closed w text =
    let here : IsClosed (pairs_of a b) relation = subst (λ (d : SetPairs). IsClosed d relation) (sym (pairs_of-trees u s t a b st)) closed in
    let same = kept-refuses a b st.first_whole st.second_whole (same_count u s t a b st) relation here.kept (map (letter_at a.table) w) (letters-small u s t a b st w text) first_pair here.first_in in
    let words : map (letter_at a.table) w ++ letters_count b ∷ [] ≡ word_at b w = ap (λ ls. ls ++ letters_count b ∷ []) (letters-same u s t a b st w text) in
    let first = matched-refuses u s a (joint_sets s t) st.first_whole st.first_stands (Finer-first (all_sets s) (all_sets t)) st.first_codes w text in
    let second = matched-refuses u t b (joint_sets s t) st.second_whole st.second_stands (Finer-second (all_sets s) (all_sets t)) st.second_codes w text in
    let m : matched s AtEnd w ≡ matched t AtEnd w = not-same (matched s AtEnd w) (matched t AtEnd w) (sym first ∙ same ∙ ap (refuses b (0 ∷ [])) words ∙ second) in
    let x = matched_to_end s w in
    let y = matched_to_end t w in
    (λ i. y.0 (subst IsTrue m (x.1 i)), λ i. x.0 (subst IsTrue (sym m) (y.1 i)))
