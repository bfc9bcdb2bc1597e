-- Regions. A set pair is two sets of states, one of each of two automata, to which the same word leads; the letters of the
-- word are those of both trees. It shows a difference if the end letter, which comes after the last letter, leads exactly one
-- of its sets to the accepting state. The first set pair has the start, state 0, of each automaton, and the next ones of a set
-- pair are the images of its two sets, one pair for each letter. A set pair of two trees is in the region of the first tree,
-- of the second, of both, or in none: it depends on which of its sets the end letter leads to the accepting state. The text of
-- a region is the text of its first set pair, in breadth-first order. It spells the word by which that set pair is first
-- reached: each letter is spelled by its sample, which is its least printable ASCII code, or its least code if it has none.
use Rattle.std.specs.Prelude.{ℕ, ◌<◌, Bool, not, ◌&&◌, List, [], ◌∷◌, length, Option, None, Some, IsTrue, ◌↔◌, if◌then◌else◌}
use Rattle.rl_ranges.specs.declared.universe.Universe.{Universe}
use Rattle.rl_ranges.specs.Letters.{IsSample}
use Rattle.rl_ranges.specs.Text.{code_count}
use Rattle.rl_syntax.specs.Tree.{Tree}
use Rattle.rl_equiv.specs.declared.pair.SetPair.{SetPair}
use Rattle.rl_equiv.specs.SetPairs.{joint_sets, SetPairs, set_pairs}
use Rattle.rl_equiv.specs.Numbering.{found_after, Reached, first_reached}
use Rattle.rl_equiv.specs.declared.compared.Compared.{Compared}

-- Whether a set pair is in the region of the first tree: the end letter leads only its first set to the accepting state.
abbrev pub in_first : SetPairs → SetPair → Bool
in_first d p = d.ends_first p && not (d.ends_second p)

-- Whether a set pair is in the region of the second tree: the end letter leads only its second set to the accepting state.
abbrev pub in_second : SetPairs → SetPair → Bool
in_second d p = not (d.ends_first p) && d.ends_second p

-- Whether a set pair is in the region of both trees: the end letter leads both of its sets to the accepting state.
abbrev pub in_both : SetPairs → SetPair → Bool
in_both d p = d.ends_first p && d.ends_second p

-- The word of the first set pair in the list for which `test` is true, or none if there is none.
abbrev pub word_where : (SetPair → Bool) → List Reached → Option (List ℕ)
word_where test [] = None
word_where test (r ∷ rs) = if test r.pair then Some r.word else word_where test rs

-- The text spells the word: they have the same length, and each code is the sample of its letter. The letters are those that
-- `sets` tell apart among `n` codes.
abbrev pub IsSpelled : (List (ℕ → Bool)) → ℕ → List ℕ → List ℕ → Type 0
IsSpelled sets n [] [] = Unit {0}
IsSpelled sets n (letter ∷ word) (code ∷ text) = IsSample sets n letter code × IsSpelled sets n word text
IsSpelled sets n [] (code ∷ text) = ⊥
IsSpelled sets n (letter ∷ word) [] = ⊥

-- There is a text if and only if there is a word, and the text spells the word (`IsSpelled`).
abbrev pub IsTextOf : List (ℕ → Bool) → ℕ → Option (List ℕ) → Option (List ℕ) → Type 0
IsTextOf sets n None None = Unit {0}
IsTextOf sets n (Some word) (Some text) = IsSpelled sets n word text
IsTextOf sets n None (Some text) = ⊥
IsTextOf sets n (Some word) None = ⊥

-- `c` has the texts of the three regions of the trees `s` and `t`, found among the first `limit` set pairs: the text of a
-- region spells the word of the first of these set pairs that is in the region, and is missing if none of them is. `c.more`
-- says whether more than `limit` set pairs are reached.
pub record AreRegions (u : Universe) (s t : Tree) (limit : ℕ) (c : Compared) : Type 0 where
  pub first : IsTextOf (joint_sets s t) (code_count u) (word_where (in_first (set_pairs u s t)) (first_reached (set_pairs u s t) limit)) c.first
  pub second : IsTextOf (joint_sets s t) (code_count u) (word_where (in_second (set_pairs u s t)) (first_reached (set_pairs u s t) limit)) c.second
  pub both : IsTextOf (joint_sets s t) (code_count u) (word_where (in_both (set_pairs u s t)) (first_reached (set_pairs u s t) limit)) c.both
  pub more : IsTrue c.more ↔ (limit < length (found_after (set_pairs u s t) limit))
