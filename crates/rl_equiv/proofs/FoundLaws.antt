-- Laws of set pairs that were found, with their words.
use Rattle.std.proofs.Common.{◌≡◌, ◌∙◌, ℕ, zero, suc, ◌+◌, ◌<◌, List, [], ◌∷◌, ◌++◌, length, get_or, refl, sym, ap, arith}
use Rattle.std.proofs.lemmas.List.{length_push, length-map, get_or-map}
use Rattle.rl_equiv.specs.declared.pair.SetPair.{SetPair}
use Rattle.rl_equiv.specs.declared.searching.Way.{Way}
use Rattle.rl_equiv.specs.SetPairs.{first_pair}
use Rattle.rl_equiv.specs.Numbering.{Reached, pairs_reached}
use Rattle.rl_equiv.specs.internal.Searching.{State, no_key, pair_of, pairs_in, words_from, words_of, word_at, reached_of, reached_in, reached_at}

from-push : (words : List (List ℕ)) (ways : List Way) (way : Way)
    → words_from words (ways ++ way ∷ []) ≡ words_from words ways ++ (get_or (words_from words ways) way.parent [] ++ way.letter ∷ []) ∷ []
from-push words [] way = refl
from-push words (w ∷ ways) way = from-push (words ++ (get_or words w.parent [] ++ w.letter ∷ []) ∷ []) ways way

pub words-push : (ways : List Way) (way : Way) → 0 < length ways → words_of (ways ++ way ∷ []) ≡ words_of ways ++ (get_or (words_of ways) way.parent [] ++ way.letter ∷ []) ∷ []
words-push [] way some = absurd (omega arith)
words-push (w ∷ ways) way some = from-push ([] ∷ []) ways way

from-length : (words : List (List ℕ)) (ways : List Way) → length (words_from words ways) ≡ length words + length ways
from-length words [] = omega arith
from-length words (w ∷ ways) =
    let longer = words ++ (get_or words w.parent [] ++ w.letter ∷ []) ∷ [] in
    omega (arith, from-length longer ways, length_push words (get_or words w.parent [] ++ w.letter ∷ []))

pub words-length : (ways : List Way) → length (words_of ways) ≡ length ways
words-length [] = refl
words-length (w ∷ ways) = omega (arith, from-length ([] ∷ []) ways)

of-pairs : (ps : List SetPair) (words : List (List ℕ)) → pairs_reached (reached_of ps words) ≡ ps
of-pairs [] words = refl
of-pairs (p ∷ ps) [] = ap (λ (l : List SetPair). p ∷ l) (of-pairs ps [])
of-pairs (p ∷ ps) (word ∷ words) = ap (λ (l : List SetPair). p ∷ l) (of-pairs ps words)

of-length : (ps : List SetPair) (words : List (List ℕ)) → length (reached_of ps words) ≡ length ps
of-length ps words = sym (length-map (reached_of ps words) (λ (r : Reached). r.pair)) ∙ ap length (of-pairs ps words)

pub of-push : (ps : List SetPair) (words : List (List ℕ)) (p : SetPair) (word : List ℕ) → length ps ≡ length words
    → reached_of (ps ++ p ∷ []) (words ++ word ∷ []) ≡ reached_of ps words ++ record { pair = p; word = word } ∷ []
of-push [] [] p word e = refl
of-push [] (w ∷ words) p word e = absurd (omega (arith, e))
of-push (q ∷ ps) [] p word e = absurd (omega (arith, e))
of-push (q ∷ ps) (w ∷ words) p word e = ap (λ (l : List Reached). record { pair = q; word = w } ∷ l) (of-push ps words p word (omega (arith, e)))

abbrev pub no_reached : Reached
no_reached = record { pair = first_pair; word = [] }

of-get : (ps : List SetPair) (words : List (List ℕ)) (k : ℕ) → k < length ps → get_or (reached_of ps words) k no_reached ≡ record { pair = get_or ps k first_pair; word = get_or words k [] }
of-get [] words k lt = absurd (omega arith)
of-get (p ∷ ps) [] zero lt = refl
of-get (p ∷ ps) [] (suc k) lt = of-get ps [] k (omega arith)
of-get (p ∷ ps) (word ∷ words) zero lt = refl
of-get (p ∷ ps) (word ∷ words) (suc k) lt = of-get ps words k (omega arith)

pub reached-pairs : (s : State) → pairs_reached (reached_in s) ≡ pairs_in s
reached-pairs s = of-pairs (pairs_in s) (words_of s.ways)

pub reached-length : (s : State) → length (reached_in s) ≡ length s.keys
reached-length s = of-length (pairs_in s) (words_of s.ways) ∙ length-map s.keys (pair_of s.first s.second)

pub reached-get : (s : State) (k : ℕ) → k < length s.keys → get_or (reached_in s) k no_reached ≡ reached_at s k
reached-get s k lt =
    of-get (pairs_in s) (words_of s.ways) k (omega (arith, length-map s.keys (pair_of s.first s.second)))
    ∙ ap (λ (p : SetPair). record { pair = p; word = word_at s k }) (get_or-map (pair_of s.first s.second) s.keys k no_key first_pair lt)
