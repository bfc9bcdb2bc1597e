-- Set pairs. Two trees are read side by side, and for each of them the set of states in which its automaton may be. The
-- letters are the classes of codes that no set of either tree tells apart, nor any set that a guard uses. The end letter comes
-- after the last of them. This is the subset construction of any textbook, for two automata at once. A set is the list of its
-- members in strictly increasing order.
use Rattle.std.specs.Prelude.{◌≡◌, ℕ, suc, Bool, true, false, not, ◌&&◌, ◌==◌, nat_le, nat_lt, List, [], ◌∷◌, ◌++◌, length, map, filter, All, Contains}
use Rattle.std.specs.List.{list_any}
use Rattle.std.proofs.Math.Bool.{beq}
use Rattle.rl_ranges.specs.declared.universe.Universe.{Universe}
use Rattle.rl_ranges.specs.Letters.{classes, class_of}
use Rattle.rl_ranges.specs.Text.{code_count}
use Rattle.rl_syntax.specs.declared.re.Ending.TheVariants.{AtEnd}
use Rattle.rl_syntax.specs.Tree.{Tree}
use Rattle.rl_prio.specs.Letters.{all_sets}
use Rattle.rl_prio.specs.States.{accepting, dead, state_count, moves_over}
use Rattle.rl_sets.specs.Live.{below, holds}
use Rattle.rl_equiv.specs.declared.pair.SetPair.{SetPair}

-- The sets that tell codes apart: those of both trees, and those that their guards use.
abbrev pub joint_sets : Tree → Tree → List (ℕ → Bool)
joint_sets s t = all_sets s ++ all_sets t

-- The letters of both trees, each given by its least code.
abbrev pub joint_letters : Universe → Tree → Tree → List ℕ
joint_letters u s t = classes (joint_sets s t) (code_count u)

-- The letters of the codes of a text, in order, by their numbers among the letters of both trees.
abbrev pub word_of : Universe → Tree → Tree → List ℕ → List ℕ
word_of u s t w = map (class_of (joint_sets s t) (code_count u)) w

-- The image of a set of states of a tree on a letter: the states that the moves of its members lead to, except the dead
-- state. The letters are those of `sets`, and `n` is the number of codes.
unfoldable pub image_over : List (ℕ → Bool) → Tree → ℕ → List ℕ → ℕ → List ℕ
image_over sets t n set letter =
    filter (λ q. not (q == dead t n) && list_any (λ p. holds (moves_over sets t AtEnd n p letter) q) set) (below (state_count t n))

-- Whether the list is strictly increasing, and all its numbers are at least `low` and below `high`. It is true for the empty
-- list.
abbrev pub rises : ℕ → ℕ → List ℕ → Bool
rises low high [] = true
rises low high (q ∷ set) = nat_le low q && (nat_lt q high && rises (suc q) high set)

-- The set pair in which both automata are at their start, the state 0.
abbrev pub first_pair : SetPair
first_pair = record { first = 0 ∷ []; second = 0 ∷ [] }

-- The set pairs of two automata, given by what a comparison asks of them.
pub record SetPairs : Type 0 where
  -- The next set pairs, one for each letter, in order.
  pub nexts : SetPair → List SetPair
  -- Whether the end letter leads its first set to the accepting state.
  pub ends_first : SetPair → Bool
  -- Whether the end letter leads its second set to the accepting state.
  pub ends_second : SetPair → Bool
  -- Whether each of its sets rises and has no other states than the start and those of places.
  pub proper : SetPair → Bool

-- A set pair shows a difference if the end letter leads exactly one of its sets to the accepting state.
abbrev pub differs : SetPairs → SetPair → Bool
differs d p = not (beq (d.ends_first p) (d.ends_second p))

-- The set pairs of two trees, each matched to the end of the text, over the letters of both.
unfoldable pub set_pairs : Universe → Tree → Tree → SetPairs
set_pairs u s t =
    let n = code_count u in
    let sets = joint_sets s t in
    let end = length (classes sets n) in
    record {
      nexts = λ p. map (λ letter. record { first = image_over sets s n p.first letter; second = image_over sets t n p.second letter }) (below end);
      ends_first = λ p. holds (image_over sets s n p.first end) (accepting s n);
      ends_second = λ p. holds (image_over sets t n p.second end) (accepting t n);
      proper = λ p. rises 0 (accepting s n) p.first && rises 0 (accepting t n) p.second;
    }

-- The set pair `p` is proper (each of its sets is a strictly increasing list of the start and states of places) and shows no
-- difference, and the relation, which is a list of set pairs, has its next ones.
pub record IsKept (d : SetPairs) (relation : List SetPair) (p : SetPair) : Type 0 where
  pub is_proper : d.proper p ≡ true
  pub no_difference : differs d p ≡ false
  pub nexts_in : All (Contains relation) (d.nexts p)

-- The relation, which is a list of set pairs, is closed: it has the first set pair, and `IsKept` holds for each of its
-- members. All sets in it are strictly increasing lists, and so is each image. So two sets have the same states if and only if
-- they are the same list.
pub record IsClosed (d : SetPairs) (relation : List SetPair) : Type 0 where
  pub first_in : Contains relation first_pair
  pub kept : All (IsKept d relation) relation
