-- Laws of words that lead apart.
use Rattle.std.proofs.Common.{◌≡◌, ◌∙◌, ℕ, ◌+◌, ◌<◌, ◌≤◌, List, [], ◌∷◌, ◌++◌, length, get_or, take, All, Bool, true, slice_get, Some, refl, sym, ap, subst, arith}
use Rattle.std.proofs.lemmas.List.{length-map, take_more, take_all}
use Rattle.std.proofs.lemmas.List.Elements.{All-more, All-nil, All-head, All-tail}
use Rattle.std.proofs.lemmas.Option.{slice_get-get_or}
use Rattle.rl_prio.specs.Automaton.{Automaton, letters_count}
use Rattle.rl_sets.specs.Live.{below}
use Rattle.rl_sets.specs.Walk.{Walk}
use Rattle.rl_equiv.specs.declared.pair.SetPair.{SetPair}
use Rattle.rl_equiv.specs.SetPairs.{first_pair}
use Rattle.rl_equiv.specs.Numbering.{Reads, stay, onward}
use Rattle.rl_equiv.proofs.ImageLaws.{length-below, get_or-below}
use Rattle.rl_trim.specs.declared.key.Key.{Key}
use Rattle.rl_trim.specs.internal.Trims.{trim_on, trim_nexts, trim_run, trim_differs, trim_pairs, LeadsApart}
use Rattle.rl_trim.specs.Reached.{IsClosedTo}
use Rattle.rl_trim.specs.internal.Quick.{IsGrown, no_key, pair_of, IsInside, IsKeyOf}
use Rattle.rl_trim.proofs.SetLaws.{grown-refl, grown-grown}
use Rattle.rl_trim.proofs.TrimOrder.{trim-nexts}

pub run-push : (a : Automaton) (keep : List Bool) (p : SetPair) (word : List ℕ) (letter : ℕ) → trim_run a keep p (word ++ letter ∷ []) ≡ trim_on a keep (trim_run a keep p word) letter
run-push a keep p [] letter = refl
run-push a keep p (l ∷ word) letter = run-push a keep (trim_on a keep p l) word letter

-- The pair to which the first letters of a word lead.
pub record IsRunning (a : Automaton) (keep : List Bool) (v w : Walk) (word : List ℕ) (read : ℕ) (key : Key) : Type 0 where
  pub grown : IsGrown a v w
  pub inside : IsInside w key
  pub small : All (λ letter. letter < letters_count a) (take read word)
  pub is : pair_of w key ≡ trim_run a keep first_pair (take read word)

pub running-start : (a : Automaton) (keep : List Bool) (w : Walk) (word : List ℕ) (count : ℕ) → IsClosedTo a w 0 count → IsRunning a keep w w word 0 no_key
running-start a keep w word count c =
    let lt : 0 < length w.sets = omega (arith, c.some, c.few) in
    record {
      grown = grown-refl a w c.made;
      inside = record { first_in = lt; second_in = lt };
      small = All-nil (λ letter. letter < letters_count a);
      is = λ j. record { first = c.start j; second = c.start j };
    }

pub running-more : (a : Automaton) (keep : List Bool) (v w x : Walk) (word : List ℕ) (read letter : ℕ) (key next : Key) → read < length word → get_or word read 0 ≡ letter → letter < letters_count a
    → IsRunning a keep v w word read key → IsKeyOf a w x (trim_on a keep (pair_of w key) letter) next → IsRunning a keep v x word (read + 1) next
running-more a keep v w x word read letter key next lt here small r k = record {
  grown = grown-grown a v w x r.grown k.grown;
  inside = k.inside;
  small = All-more (λ l. l < letters_count a) word read 0 lt r.small (subst (λ (l : ℕ). l < letters_count a) (sym here) small);
  is =
      k.is
      ∙ ap (λ (p : SetPair). trim_on a keep p letter) r.is
      ∙ ap (trim_on a keep (trim_run a keep first_pair (take read word))) (sym here)
      ∙ sym (run-push a keep first_pair (take read word) (get_or word read 0))
      ∙ ap (trim_run a keep first_pair) (sym (take_more word read 0 lt));
}

pub running-apart : (a : Automaton) (keep : List Bool) (v w : Walk) (word : List ℕ) (read : ℕ) (key : Key) → length word ≤ read → IsRunning a keep v w word read key → trim_differs a (pair_of w key) ≡ true → LeadsApart a keep word
running-apart a keep v w word read key all r e =
    let whole : take read word ≡ word = take_all read word all in
    record {
      small = subst (All (λ letter. letter < letters_count a)) whole r.small;
      apart = ap (λ (l : List ℕ). trim_differs a (trim_run a keep first_pair l)) (sym whole) ∙ ap (trim_differs a) (sym r.is) ∙ e;
    }

-- Such a word leads to it in the order of pairs too.
next-get : (a : Automaton) (keep : List Bool) (p : SetPair) (letter : ℕ) → letter < letters_count a → slice_get ((trim_pairs a keep).nexts p) letter ≡ Some (trim_on a keep p letter)
next-get a keep p letter lt =
    let f = trim_on a keep p in
    let long : letter < length (trim_nexts a keep p) = omega (arith, lt, length-map (below (letters_count a)) f, length-below (letters_count a)) in
    ap (λ (l : List SetPair). slice_get l letter) (trim-nexts a keep p)
    ∙ slice_get-get_or (trim_nexts a keep p) letter first_pair long
    ∙ ap (λ (q : SetPair). Some q) (get_or-below f (letters_count a) letter first_pair lt)

pub reads-run : (a : Automaton) (keep : List Bool) (word : List ℕ) (p : SetPair) → All (λ letter. letter < letters_count a) word → Reads (trim_pairs a keep) p word (trim_run a keep p word)
reads-run a keep [] p small = stay
reads-run a keep (letter ∷ word) p small =
    onward {q = trim_on a keep p letter} (next-get a keep p letter (All-head (λ l. l < letters_count a) letter word small))
    (reads-run a keep word (trim_on a keep p letter) (All-tail (λ l. l < letters_count a) letter word small))
