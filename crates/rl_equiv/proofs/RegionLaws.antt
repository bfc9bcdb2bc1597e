-- Laws of the texts of regions.
use Rattle.std.proofs.Common.{◌≡◌, ◌∙◌, ℕ, zero, suc, ◌+◌, ◌<◌, ◌≤◌, ◌⊎◌, inl, inr, List, [], ◌∷◌, ◌++◌, length, get_or, map, take, slice_get, Option, Some, None, All, Bool, true, false, not, ◌&&◌, cond, IsTrue, ◌↔◌, nat_lt, refl, sym, ap, subst, arith, append_assoc}
use Rattle.std.proofs.Math.Bool.{beq}
use Rattle.std.proofs.lemmas.Bool.{cases_lt, ltb-true, lt-ltb}
use Rattle.std.proofs.lemmas.List.{length_push, length-append, get_or_push, get_or_append_left, take_all, take-append-le, length-take, append-nil}
use Rattle.std.proofs.lemmas.List.Elements.{All-head, All-tail}
use Rattle.std.proofs.lemmas.Option.{slice_get_past, get_or_from_slice_get}
use Rattle.rl_ranges.specs.declared.universe.Universe.{Universe}
use Rattle.rl_ranges.specs.Letters.{IsSample}
use Rattle.rl_ranges.specs.Text.{code_count}
use Rattle.rl_syntax.specs.Tree.{Tree}
use Rattle.rl_prio.specs.Automaton.{Automaton, letters_count}
use Rattle.rl_equiv.specs.declared.pair.SetPair.{SetPair}
use Rattle.rl_equiv.specs.declared.searching.Ends.{Ends}
use Rattle.rl_equiv.specs.declared.searching.Way.{Way}
use Rattle.rl_equiv.specs.declared.compared.Compared.{Compared}
use Rattle.rl_equiv.specs.SetPairs.{joint_sets, SetPairs}
use Rattle.rl_equiv.specs.Numbering.{found_after, Reached, reached_after, first_reached, looked_at_reached}
use Rattle.rl_equiv.specs.Joined.{StandTogether}
use Rattle.rl_equiv.specs.internal.Machines.{pairs_of}
use Rattle.rl_equiv.specs.Regions.{in_first, in_second, in_both, word_where, IsSpelled, IsTextOf, AreRegions}
use Rattle.rl_equiv.specs.internal.Searching.{State, pairs_in, pair_at, no_way, words_from, words_of, word_at, reached_in, reached_at, IsNext, IsSearch, AreCapped, IsSeen, IsThrough, Leads, start, onward, sample_of, IsFirstText}
use Rattle.rl_equiv.proofs.FoundLaws.{no_reached, reached-length, reached-get}
use Rattle.rl_equiv.proofs.SearchLaws.{pairs-length}
use Rattle.rl_equiv.proofs.RunLaws.{found-steady}
use Rattle.rl_equiv.proofs.ImageLaws.{pairs_of-trees}
use Rattle.rl_equiv.proofs.ApartLaws.{lead-is}
use Rattle.rl_equiv.proofs.ReaderLaws.{are-readers}
use Rattle.rl_equiv.proofs.SeenLaws.{seen-pairs}

-- ---- the ways give the word of a place

from-grows : (words : List (List ℕ)) (ways : List Way) → (more : List (List ℕ)) × (words_from words ways ≡ words ++ more)
from-grows words [] = ([], sym (append-nil words))
from-grows words (w ∷ ways) =
    let word = get_or words w.parent [] ++ w.letter ∷ [] in
    let r = from-grows (words ++ word ∷ []) ways in
    (word ∷ r.0, r.1 ∙ append_assoc words (word ∷ []) r.0)

from-get : (words : List (List ℕ)) (ways : List Way) (k : ℕ) (way : Way) → slice_get ways k ≡ Some way → way.parent < length words + k
    → get_or (words_from words ways) (length words + k) [] ≡ get_or (words_from words ways) way.parent [] ++ way.letter ∷ []
from-get words [] k way e lt = cc
from-get words (w ∷ ways) zero way e lt =
    let word = get_or words w.parent [] ++ w.letter ∷ [] in
    let longer = words ++ word ∷ [] in
    let r = from-grows longer ways in
    let long = length_push words word in
    let same : w ≡ way = get_or_from_slice_get (w ∷ ways) 0 way w e in
    let less : w.parent < length words = subst (λ (x : Way). x.parent < length words) (sym same) (omega (arith, lt)) in
    let there : get_or (words_from words (w ∷ ways)) (length words + 0) [] ≡ word =
    ap (λ (l : List (List ℕ)). get_or l (length words + 0) []) r.1 ∙ get_or_append_left longer r.0 [] (length words + 0) (omega (arith, long)) ∙ get_or_push words word [] (length words + 0) (omega arith) in
    let parent : get_or (words_from words (w ∷ ways)) w.parent [] ≡ get_or words w.parent [] =
    ap (λ (l : List (List ℕ)). get_or l w.parent []) r.1 ∙ get_or_append_left longer r.0 [] w.parent (omega (arith, long, less)) ∙ get_or_append_left words (word ∷ []) [] w.parent less in
    there ∙ ap (λ (l : List ℕ). l ++ w.letter ∷ []) (sym parent) ∙ ap (λ (x : Way). get_or (words_from words (w ∷ ways)) x.parent [] ++ x.letter ∷ []) same
from-get words (w ∷ ways) (suc k) way e lt =
    let word = get_or words w.parent [] ++ w.letter ∷ [] in
    let longer = words ++ word ∷ [] in
    let long : length longer + k ≡ length words + suc k = omega (arith, length_push words word) in
    subst (λ (n : ℕ). get_or (words_from longer ways) n [] ≡ get_or (words_from longer ways) way.parent [] ++ way.letter ∷ []) long (from-get longer ways k way e (omega (arith, long, lt)))

words-get : (ways : List Way) (k : ℕ) (way : Way) → 0 < k → slice_get ways k ≡ Some way → way.parent < k → get_or (words_of ways) k [] ≡ get_or (words_of ways) way.parent [] ++ way.letter ∷ []
words-get [] k way some e lt = cc
words-get (w ∷ ways) zero way some e lt = absurd (omega arith)
words-get (w ∷ ways) (suc k) way some e lt =
    let one : 1 + k ≡ suc k = omega arith in
    subst (λ (n : ℕ). get_or (words_from ([] ∷ []) ways) n [] ≡ get_or (words_from ([] ∷ []) ways) way.parent [] ++ way.letter ∷ []) one (from-get ([] ∷ []) ways k way e (omega arith))

words-start : (ways : List Way) → get_or (words_of ways) 0 [] ≡ []
words-start [] = refl
words-start (w ∷ ways) = let r = from-grows ([] ∷ []) ways in ap (λ (l : List (List ℕ)). get_or l 0 []) r.1

leads-word : (a b : Automaton) (s : State) → IsSearch a b s → (k : ℕ) (word : List ℕ) → k < length s.keys → Leads s.ways k word → word ≡ word_at s k
leads-word a b s search _ _ lt start = sym (words-start s.ways)
leads-word a b s search k _ lt (onward {way = way} {word = word} some read l) =
    let next : IsNext a b s k way = subst (IsNext a b s k) (get_or_from_slice_get s.ways k way no_way read) (search.ways k some lt) in
    ap (λ (w : List ℕ). w ++ way.letter ∷ []) (leads-word a b s search way.parent word (omega (arith, next.earlier)) l) ∙ sym (words-get s.ways k way some read next.earlier)

-- ---- the first set pair that passes a test

where-first : (test : SetPair → Bool) (l : List Reached) (k : ℕ) → k < length l → ((j : ℕ) → j < k → test (get_or l j no_reached).pair ≡ false) → test (get_or l k no_reached).pair ≡ true
    → word_where test l ≡ Some (get_or l k no_reached).word
where-first test [] k lt before here = absurd (omega arith)
where-first test (r ∷ rs) zero lt before here = ap (λ (b : Bool). cond b (Some r.word) (word_where test rs)) here
where-first test (r ∷ rs) (suc k) lt before here =
    ap (λ (b : Bool). cond b (Some r.word) (word_where test rs)) (before 0 (omega arith))
    ∙ where-first test rs k (omega arith) (λ j less. before (suc j) (omega arith)) here

where-nothing : (test : SetPair → Bool) (l : List Reached) → ((j : ℕ) → j < length l → test (get_or l j no_reached).pair ≡ false) → word_where test l ≡ None
where-nothing test [] each = refl
where-nothing test (r ∷ rs) each =
    ap (λ (b : Bool). cond b (Some r.word) (word_where test rs)) (each 0 (omega arith)) ∙ where-nothing test rs (λ j less. each (suc j) (omega arith))

-- ---- once all were looked at, no more are found

reached-next : (d : SetPairs) (k : ℕ) → reached_after d (suc k) ≡ looked_at_reached d (reached_after d k) (slice_get (reached_after d k) k)
unfolding reached_after
reached-next d k = refl

reached-steady : (d : SetPairs) (k j : ℕ) → length (reached_after d k) ≤ k → k ≤ j → reached_after d j ≡ reached_after d k
reached-steady d k zero all le = let e : zero ≡ k = omega arith in ap (reached_after d) e
reached-steady d k (suc j) all le =
    elim (cases_lt j k) [
      | inl lt ↦ let e : suc j ≡ k = omega arith in ap (reached_after d) e
      | inr ge ↦
          let x = reached-steady d k j all ge in
          let none : slice_get (reached_after d j) j ≡ None = slice_get_past (reached_after d j) j (omega (arith, ap length x)) in
          reached-next d j ∙ ap (looked_at_reached d (reached_after d j)) none ∙ x
    ]

get-take : (l : List Reached) (n k : ℕ) → k < n → get_or (take n l) k no_reached ≡ get_or l k no_reached
get-take [] n k lt = nothing n k
  where
    nothing : (n k : ℕ) → get_or (take n []) k no_reached ≡ no_reached
    nothing zero k = refl
    nothing (suc n) k = refl
get-take (x ∷ l) zero k lt = absurd (omega arith)
get-take (x ∷ l) (suc n) zero lt = refl
get-take (x ∷ l) (suc n) (suc k) lt = get-take l n k (omega arith)

module _ (a b : Automaton) (limit : ℕ) (s : State) (seen : List Ends) (r : IsSeen a b limit s seen) (through : IsThrough limit s seen) where
  first-is : first_reached (pairs_of a b) limit ≡ take (length seen) (reached_in s)
  first-is = by r.capped through
    where
      by : AreCapped limit (reached_in s) (reached_after (pairs_of a b) (length seen)) → IsThrough limit s seen → first_reached (pairs_of a b) limit ≡ take (length seen) (reached_in s)
      by (inl e) (inl le) =
          let here : length seen ≡ limit = omega (arith, r.in_limit) in
          ap (λ (n : ℕ). take limit (reached_after (pairs_of a b) n)) (sym here) ∙ ap (λ (l : List Reached). take limit l) (sym e) ∙ ap (λ (n : ℕ). take n (reached_in s)) (sym here)
      by (inl e) (inr le) =
          let long = reached-length s in
          let few : length (reached_after (pairs_of a b) (length seen)) ≤ length seen = omega (arith, ap length e, long, le) in
          ap (take limit) (reached-steady (pairs_of a b) (length seen) limit few r.in_limit ∙ sym e)
          ∙ take_all limit (reached_in s) (omega (arith, long, le, r.in_limit)) ∙ sym (take_all (length seen) (reached_in s) (omega (arith, long, le)))
      by (inr h) (inl le) =
          let here : length seen ≡ limit = omega (arith, r.in_limit) in
          ap (λ (n : ℕ). take limit (reached_after (pairs_of a b) n)) (sym here) ∙ ap (λ (l : List Reached). take limit l) h.1.1 ∙ take-append-le limit (reached_in s) h.1.0 (omega (arith, h.0)) ∙ ap (λ (n : ℕ). take n (reached_in s)) (sym here)
      by (inr h) (inr le) = absurd (omega (arith, h.0, reached-length s, le, r.in_limit))

  first-count : length (take (length seen) (reached_in s)) ≡ length seen
  first-count = omega (arith, length-take (length seen) (reached_in s), reached-length s, r.in_found)

  first-get : (k : ℕ) → k < length seen → get_or (take (length seen) (reached_in s)) k no_reached ≡ reached_at s k
  first-get k lt = get-take (reached_in s) (length seen) k lt ∙ reached-get s k (omega (arith, r.in_found))

  more-is : IsTrue (nat_lt limit (length s.keys)) ↔ (limit < length (found_after (pairs_of a b) limit))
  more-is = (there, back)
    where
      there : IsTrue (nat_lt limit (length s.keys)) → limit < length (found_after (pairs_of a b) limit)
      there e = by through (seen-pairs a b limit s seen r)
        where
          by : IsThrough limit s seen → AreCapped limit (pairs_in s) (found_after (pairs_of a b) (length seen)) → limit < length (found_after (pairs_of a b) limit)
          by (inr le) c = absurd (omega (arith, ltb-true limit (length s.keys) e, le, r.in_limit))
          by (inl le) c =
              let here : length seen ≡ limit = omega (arith, r.in_limit) in
              subst (λ (n : ℕ). limit < length (found_after (pairs_of a b) n)) here (longer c)
            where
              longer : AreCapped limit (pairs_in s) (found_after (pairs_of a b) (length seen)) → limit < length (found_after (pairs_of a b) (length seen))
              longer (inl q) = omega (arith, ap length q, pairs-length s, ltb-true limit (length s.keys) e)
              longer (inr h) = omega (arith, ap length h.1.1, length-append (pairs_in s) h.1.0, h.0)

      back : limit < length (found_after (pairs_of a b) limit) → IsTrue (nat_lt limit (length s.keys))
      back lt = by (cases_lt limit (length s.keys))
        where
          by : (limit < length s.keys) ⊎ (length s.keys ≤ limit) → IsTrue (nat_lt limit (length s.keys))
          by (inl less) = lt-ltb limit (length s.keys) less
          by (inr few) = absurd (no (seen-pairs a b limit s seen r) through)
            where
              no : AreCapped limit (pairs_in s) (found_after (pairs_of a b) (length seen)) → IsThrough limit s seen → ⊥
              no (inr h) t = omega (arith, h.0, pairs-length s, few)
              no (inl e) (inl le) =
                  let here : length seen ≡ limit = omega (arith, r.in_limit) in
                  omega (arith, ap length e, ap (λ (n : ℕ). length (found_after (pairs_of a b) n)) here, pairs-length s, few, lt)
              no (inl e) (inr le) =
                  let all : length (found_after (pairs_of a b) (length seen)) ≤ length seen = omega (arith, ap length e, pairs-length s, le) in
                  omega (arith, ap length (found-steady (pairs_of a b) (length seen) limit all r.in_limit), ap length e, pairs-length s, few, lt)

first-test : (x y : Bool) → (beq x true && beq y false) ≡ (x && not y)
first-test true true = refl
first-test true false = refl
first-test false true = refl
first-test false false = refl

second-test : (x y : Bool) → (beq x false && beq y true) ≡ (not x && y)
second-test true true = refl
second-test true false = refl
second-test false true = refl
second-test false false = refl

both-test : (x y : Bool) → (beq x true && beq y true) ≡ (x && y)
both-test true true = refl
both-test true false = refl
both-test false true = refl
both-test false false = refl

module _ (u : Universe) (s t : Tree) (a b : Automaton) (st : StandTogether u s t a b) (limit : ℕ) (at : State) (seen : List Ends) (r : IsSeen a b limit at seen) (through : IsThrough limit at seen) where
  samples-spell : (word : List ℕ) → All (λ l. l < letters_count a) word → IsSpelled (joint_sets s t) (code_count u) word (map (sample_of a) word)
  samples-spell [] small = tt
  samples-spell (l ∷ word) small = (
    subst (λ (n : ℕ). IsSample (joint_sets s t) n l (sample_of a l)) st.first_codes (st.first_stands.same_letters.same_sample l (All-head (λ x. x < letters_count a) l word small)),
    samples-spell word (All-tail (λ x. x < letters_count a) l word small),
  )

  region-text : (test : SetPair → Bool) (x y : Bool) → ((p : SetPair) → (beq ((pairs_of a b).ends_first p) x && beq ((pairs_of a b).ends_second p) y) ≡ test p) → (o : Option (List ℕ)) → IsFirstText a at seen x y o
      → IsTextOf (joint_sets s t) (code_count u) (word_where test (first_reached (pairs_of a b) limit)) o
  region-text test x y same None none =
      let L = take (length seen) (reached_in at) in
      let test-at = λ (k : ℕ) (lt : k < length seen). ap (λ (q : Reached). test q.pair) (first-get a b limit at seen r through k lt) ∙ sym (same (pair_at at k)) ∙ ap (λ (e : Ends). beq e.first x && beq e.second y) (sym (r.are k lt)) in
      let nothing : word_where test (first_reached (pairs_of a b) limit) ≡ None =
      ap (word_where test) (first-is a b limit at seen r through) ∙ where-nothing test L (λ j lt. test-at j (omega (arith, lt, first-count a b limit at seen r through)) ∙ none j (omega (arith, lt, first-count a b limit at seen r through))) in
      subst (λ (o : Option (List ℕ)). IsTextOf (joint_sets s t) (code_count u) o None) (sym nothing) tt
  region-text test x y same (Some text) h =
      let L = take (length seen) (reached_in at) in
      let place = h.0 in
      let test-at = λ (k : ℕ) (lt : k < length seen). ap (λ (q : Reached). test q.pair) (first-get a b limit at seen r through k lt) ∙ sym (same (pair_at at k)) ∙ ap (λ (e : Ends). beq e.first x && beq e.second y) (sym (r.are k lt)) in
      let there : word_where test (first_reached (pairs_of a b) limit) ≡ Some (word_at at place) =
      ap (word_where test) (first-is a b limit at seen r through)
      ∙ where-first test L place (omega (arith, h.1, first-count a b limit at seen r through)) (λ j lt. test-at j (omega (arith, lt, h.1)) ∙ h.2 j lt) (test-at place h.1 ∙ h.3)
      ∙ ap (λ (q : Reached). Some q.word) (first-get a b limit at seen r through place h.1) in
      let in' : place < length at.keys = omega (arith, h.1, r.in_found) in
      let lead = lead-is a b (are-readers u s t a b st) at r.search place h.4.0 in' h.4.1 in
      let word = leads-word a b at r.search place h.4.0 in' h.4.1 in
      let spelled : IsSpelled (joint_sets s t) (code_count u) (word_at at place) text =
      subst (λ (l : List ℕ). IsSpelled (joint_sets s t) (code_count u) l text) word (subst (IsSpelled (joint_sets s t) (code_count u) h.4.0) (sym h.4.2) (samples-spell h.4.0 lead.small)) in
      subst (λ (o : Option (List ℕ)). IsTextOf (joint_sets s t) (code_count u) o (Some text)) (sym there) spelled

  pub regions-are : (c : Compared) → IsFirstText a at seen true false c.first → IsFirstText a at seen false true c.second → IsFirstText a at seen true true c.both → c.more ≡ nat_lt limit (length at.keys)
      → AreRegions u s t limit c
  regions-are c f g h more =
      let d = pairs_of a b in
      let e = pairs_of-trees u s t a b st in
      record {
        first = subst (λ (d : SetPairs). IsTextOf (joint_sets s t) (code_count u) (word_where (in_first d) (first_reached d limit)) c.first) e
            (region-text (in_first d) true false (λ p. first-test (d.ends_first p) (d.ends_second p)) c.first f);
        second = subst (λ (d : SetPairs). IsTextOf (joint_sets s t) (code_count u) (word_where (in_second d) (first_reached d limit)) c.second) e
            (region-text (in_second d) false true (λ p. second-test (d.ends_first p) (d.ends_second p)) c.second g);
        both = subst (λ (d : SetPairs). IsTextOf (joint_sets s t) (code_count u) (word_where (in_both d) (first_reached d limit)) c.both) e
            (region-text (in_both d) true true (λ p. both-test (d.ends_first p) (d.ends_second p)) c.both h);
        more = subst (λ (d : SetPairs). IsTrue c.more ↔ (limit < length (found_after d limit))) e
            (subst (λ (m : Bool). IsTrue m ↔ (limit < length (found_after d limit))) (sym more) (more-is a b limit at seen r through));
      }
