-- Right verdicts: what a verdict on a tree, an ending and a universe states about the costs of all texts, and when no verdict
-- has to be given because a limit is exceeded. The degree of a verdict is the degree of growth of Weber and Seidl (1991),
-- applied to costs. The cost of a text is one more than the number of steps that a match of it takes. An automaton stands for
-- a tree and an ending if it has the letters, states and moves that these define. A pair is a state of the automaton with a
-- set: the states that were tried before it. A live pair is the first pair, or a pair whose set refuses some rest of a text,
-- which means that none of its states accepts the rest, and to which a live pair has a move. A counted set is the set of a
-- pair to which a live pair has a move, or the image of a counted set that doesn't have the accepting state. A family has
-- heads and pumps: its text for `k` is the heads in order, with each pump, repeated `k` times, after its head.
use Rattle.std.specs.Prelude.{ℕ, ◌+◌, ◌*◌, ◌^◌, ◌<◌, ◌≤◌, ◌≡◌, List, length}
use Rattle.rl_ranges.specs.declared.universe.Universe.{Universe}
use Rattle.rl_ranges.specs.Text.{code_count, IsText}
use Rattle.rl_syntax.specs.declared.re.Ending.{Ending}
use Rattle.rl_syntax.specs.declared.verdict.Family.{Family}
use Rattle.rl_syntax.specs.declared.verdict.Limit.{Limit}
use Rattle.rl_syntax.specs.declared.verdict.Limit.TheVariants.{Size, Letters, Moves, Sets, Pairs}
use Rattle.rl_syntax.specs.declared.verdict.Verdict.{Verdict}
use Rattle.rl_syntax.specs.declared.verdict.Verdict.TheVariants.{Degree, Expo, Undecided}
use Rattle.rl_syntax.specs.Tree.{Tree, size}
use Rattle.rl_syntax.specs.Cost.{cost}
use Rattle.rl_syntax.specs.Family.{family_text, IsFamily, IsExpoFamily}
use Rattle.rl_prio.specs.Automaton.{Automaton}
use Rattle.rl_prio.specs.Items.{longest}
use Rattle.rl_prio.specs.Letters.{letters}
use Rattle.rl_prio.specs.Measure.{measure}
use Rattle.rl_prio.specs.StandsFor.{StandsFor}
use Rattle.rl_graph.specs.Bounds.{bound_c}
use Rattle.rl_pairs.specs.LivePairs.{LivePair}
use Rattle.rl_pairs.specs.Counted.{CountedSet, MoreThan}
use Rattle.rl_ranges.specs.declared.letters.TheConstants.{MOST_LETTERS}
use Rattle.rl_syntax.specs.declared.limits.TheConstants.{MOST_NODES, MOST_MOVES, MOST_COUNTED_SETS}

-- The subject of a verdict: a tree with an ending, the universe of its texts, and the greatest number of live pairs allowed.
pub record Question : Type 0 where
  pub tree : Tree
  pub ending : Ending
  pub universe : Universe
  pub max_pairs : ℕ

-- The automaton stands for the tree and the ending, over the codes of the universe.
pub record IsMachine (q : Question) (a : Automaton) : Type 0 where
  pub stands : StandsFor a q.tree q.ending
  pub same_codes : a.table.codes ≡ code_count q.universe

-- The limit is exceeded. `Size`: the tree has more than `MOST_NODES` nodes. `Letters`: it has more than `MOST_LETTERS`
-- letters. `Moves`: its longest item list has more than `MOST_MOVES` items. `Pairs` and `Sets`: some automaton for the
-- question (`IsMachine`) has more than `max_pairs` live pairs, or more than `MOST_COUNTED_SETS` counted sets.
abbrev pub IsExceeded : Question → Limit → Type 0
IsExceeded q Size = MOST_NODES < size q.tree
IsExceeded q Letters = MOST_LETTERS < length (letters q.tree (code_count q.universe))
IsExceeded q Moves = MOST_MOVES < longest q.tree
IsExceeded q Pairs = (a : Automaton) × IsMachine q a × MoreThan q.max_pairs (LivePair a)
IsExceeded q Sets = (a : Automaton) × IsMachine q a × MoreThan MOST_COUNTED_SETS (CountedSet a)

-- The limits that are checked before the automaton is built, which are size, letters and moves, aren't exceeded.
pub record IsSmall (q : Question) : Type 0 where
  pub size : IsExceeded q Size → ⊥
  pub letters : IsExceeded q Letters → ⊥
  pub moves : IsExceeded q Moves → ⊥

-- It is right to name the limit: it is the first one exceeded among size, letters and moves, or none of these three is
-- exceeded and the limit is pairs or sets and is exceeded.
abbrev pub IsNamed : Question → Limit → Type 0
IsNamed q Size = IsExceeded q Size
IsNamed q Letters = (IsExceeded q Size → ⊥) × IsExceeded q Letters
IsNamed q Moves = (IsExceeded q Size → ⊥) × (IsExceeded q Letters → ⊥) × IsExceeded q Moves
IsNamed q Pairs = IsSmall q × IsExceeded q Pairs
IsNamed q Sets = IsSmall q × IsExceeded q Sets

-- The lower bound of a degree. No limit is exceeded. The family has `d` pumps, none of them empty, and `d + 1` heads, all of
-- them texts of the universe (`IsFamily`). For each `k`, the family's text with each pump repeated `k` times costs at least
-- `k^d`.
pub record HasDegree (q : Question) (d : ℕ) (f : Family) : Type 0 where
  pub within : (limit : Limit) → IsExceeded q limit → ⊥
  pub family : IsFamily q.universe d f
  pub lower : (k : ℕ) → k ^ d ≤ cost q.tree q.ending (family_text f k)

-- The measure of the question's tree: its size, or, if it has a lookaround, its size times one more than the number of kinds of
-- codes.
abbrev pub measure_of : Question → ℕ
measure_of q = measure (code_count q.universe) q.tree

-- The cost of every text is at most a constant, which depends only on the measure of the tree and on `d`, times the `d`-th power
-- of its length plus one.
abbrev pub IsBounded : Question → ℕ → Type 0
IsBounded q d = (w : List ℕ) → IsText q.universe w → cost q.tree q.ending w ≤ bound_c (measure_of q) d * (length w + 1) ^ d

-- The lower bound of exponential growth. No limit is exceeded. The family has one pump, which isn't empty, between two heads,
-- all of them texts of the universe (`IsExpoFamily`). For each `k`, the family's text with the pump repeated `k` times costs
-- at least `2^k`.
pub record IsExpo (q : Question) (f : Family) : Type 0 where
  pub within : (limit : Limit) → IsExceeded q limit → ⊥
  pub family : IsExpoFamily q.universe f
  pub lower : (k : ℕ) → 2 ^ k ≤ cost q.tree q.ending (family_text f k)

-- The verdict is right. A degree `d` needs a family that shows the lower bound (`HasDegree`) and the upper bound for all texts
-- (`IsBounded`). Exponential growth needs a family that shows it (`IsExpo`). An undecided verdict must name the right limit
-- (`IsNamed`).
abbrev pub RightVerdict : Question → Verdict → Type 0
RightVerdict q (Degree d f) = HasDegree q d f × IsBounded q d
RightVerdict q (Expo f) = IsExpo q f
RightVerdict q (Undecided limit) = IsNamed q limit
