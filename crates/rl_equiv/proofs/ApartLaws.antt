-- Laws of a difference: if a word leads to a set pair that shows one, exactly one of the starts refuses the word.
use Rattle.std.proofs.Common.{◌≡◌, ◌∙◌, ℕ, ◌<◌, List, [], ◌∷◌, ◌++◌, length, map, slice_get, Some, All, Bool, true, false, not, refl, sym, ap, subst, arith, append_assoc}
use Rattle.std.proofs.lemmas.Bool.{false≢true}
use Rattle.std.proofs.lemmas.List.Elements.{All-nil, All-push}
use Rattle.std.proofs.lemmas.Option.{get_or_from_slice_get}
use Rattle.rl_prio.specs.Automaton.{Automaton, letters_count}
use Rattle.rl_sets.specs.Live.{image, refuses}
use Rattle.rl_sets.proofs.LiveLemmas.{refuses-image, refuses-nothing}
use Rattle.rl_equiv.specs.declared.pair.SetPair.{SetPair}
use Rattle.rl_equiv.specs.declared.searching.Way.{Way}
use Rattle.rl_equiv.specs.SetPairs.{differs}
use Rattle.rl_equiv.specs.internal.Machines.{ends, pairs_of}
use Rattle.rl_equiv.specs.internal.Searching.{AreReaders, State, no_way, pair_at, IsNext, IsSearch, Leads, start, onward, sample_of, IsApart}
use Rattle.rl_equiv.proofs.ClosedLaws.{proper-free, first-proper, second-proper, same-ends}
use Rattle.rl_equiv.proofs.RunLaws.{found-proper}

-- What a word that leads to a set pair gives.
pub record IsLead (a b : Automaton) (s : State) (k : ℕ) (word : List ℕ) : Type 0 where
  pub small : All (λ letter. letter < letters_count a) word
  pub first : (tail : List ℕ) → refuses a (0 ∷ []) (word ++ tail) ≡ refuses a (pair_at s k).first tail
  pub second : (tail : List ℕ) → refuses b (0 ∷ []) (word ++ tail) ≡ refuses b (pair_at s k).second tail

module _ (a b : Automaton) (readers : AreReaders a b) (s : State) (search : IsSearch a b s) where
  lead-start : IsLead a b s 0 []
  lead-start = record {
    small = All-nil (λ letter. letter < letters_count a);
    first = λ tail. ap (λ (p : SetPair). refuses a p.first tail) (sym search.start);
    second = λ tail. ap (λ (p : SetPair). refuses b p.second tail) (sym search.start);
  }

  lead-onward : (k : ℕ) (way : Way) (word : List ℕ) → 0 < k → k < length s.keys → slice_get s.ways k ≡ Some way → IsLead a b s way.parent word → IsLead a b s k (word ++ way.letter ∷ [])
  lead-onward k way word some lt read l =
      let next : IsNext a b s k way = subst (IsNext a b s k) (get_or_from_slice_get s.ways k way no_way read) (search.ways k some lt) in
      let proper = found-proper a b s readers search way.parent (omega (arith, next.earlier)) in
      let p = pair_at s way.parent in
      record {
        small = All-push (λ letter. letter < letters_count a) word way.letter l.small next.small;
        first = λ tail.
            ap (refuses a (0 ∷ [])) (append_assoc word (way.letter ∷ []) tail)
            ∙ l.first (way.letter ∷ tail)
            ∙ refuses-image a readers.first_reads.whole p.first way.letter tail (proper-free a p.first (first-proper a b p proper))
            ∙ ap (λ (q : SetPair). refuses a q.first tail) (sym next.is);
        second = λ tail.
            ap (refuses b (0 ∷ [])) (append_assoc word (way.letter ∷ []) tail)
            ∙ l.second (way.letter ∷ tail)
            ∙ refuses-image b readers.second_reads.whole p.second way.letter tail (proper-free b p.second (second-proper a b p proper))
            ∙ ap (λ (q : SetPair). refuses b q.second tail) (sym next.is);
      }

  earlier-in : (k : ℕ) (way : Way) → 0 < k → k < length s.keys → slice_get s.ways k ≡ Some way → way.parent < length s.keys
  earlier-in k way some lt read =
      let next : IsNext a b s k way = subst (IsNext a b s k) (get_or_from_slice_get s.ways k way no_way read) (search.ways k some lt) in
      omega (arith, next.earlier)

  pub lead-is : (k : ℕ) (word : List ℕ) → k < length s.keys → Leads s.ways k word → IsLead a b s k word
  lead-is _ _ lt start = lead-start
  lead-is k _ lt (onward {way = way} {word = word} some read l) = lead-onward k way word some lt read (lead-is way.parent word (earlier-in k way some lt read) l)

  -- The end letter after it.
  end-first : (k : ℕ) → k < length s.keys → refuses a (pair_at s k).first (letters_count a ∷ []) ≡ not (ends a (pair_at s k).first)
  end-first k lt =
      let p = pair_at s k in
      refuses-image a readers.first_reads.whole p.first (letters_count a) [] (proper-free a p.first (first-proper a b p (found-proper a b s readers search k lt)))
      ∙ refuses-nothing a (image a p.first (letters_count a))

  end-second : (k : ℕ) → k < length s.keys → refuses b (pair_at s k).second (letters_count b ∷ []) ≡ not (ends b (pair_at s k).second)
  end-second k lt =
      let p = pair_at s k in
      refuses-image b readers.second_reads.whole p.second (letters_count b) [] (proper-free b p.second (second-proper a b p (found-proper a b s readers search k lt)))
      ∙ refuses-nothing b (image b p.second (letters_count b))

  not-same : (x y : Bool) → not x ≡ not y → x ≡ y
  not-same true true e = refl
  not-same true false e = absurd (false≢true e)
  not-same false true e = absurd (false≢true (sym e))
  not-same false false e = refl

  pub apart-is : (k : ℕ) (text : List ℕ) → k < length s.keys → differs (pairs_of a b) (pair_at s k) ≡ true → (word : List ℕ) × Leads s.ways k word × (text ≡ map (sample_of a) word) → IsApart a b text
  apart-is k text lt apart h =
      let l = lead-is k h.0 lt h.1 in
      record {
        word = h.0;
        small = l.small;
        spelled = h.2;
        apart = λ e.
            let same : ends a (pair_at s k).first ≡ ends b (pair_at s k).second =
            not-same (ends a (pair_at s k).first) (ends b (pair_at s k).second) (sym (end-first k lt) ∙ sym (l.first (letters_count a ∷ [])) ∙ e ∙ l.second (letters_count b ∷ []) ∙ end-second k lt) in
            false≢true (sym (same-ends a b (pair_at s k) same) ∙ apart);
      }
