-- What a comparison of two trees finds. It looks at the set pairs of the trees in the order in which they are found, up to a
-- limit on their number. A set pair has a set of states for each tree, to which the same letters lead; it differs if the end
-- letter leads exactly one of the two sets to the accepting state. A tree itself may exceed a limit on its size, its letters
-- or its moves.
use Rattle.std.specs.Prelude.{ℕ, ◌<◌, ◌≤◌, length}
use Rattle.rl_ranges.specs.declared.universe.Universe.{Universe}
use Rattle.rl_syntax.specs.declared.verdict.Limit.{Limit}
use Rattle.rl_syntax.specs.declared.verdict.Limit.TheVariants as limit
use Rattle.rl_syntax.specs.Tree.{Tree, size}
use Rattle.rl_prio.specs.Items.{longest}
use Rattle.rl_prio.specs.Letters.{all_sets}
use Rattle.rl_ranges.specs.Letters.{classes}
use Rattle.rl_ranges.specs.Text.{code_count}
use Rattle.rl_equiv.specs.SetPairs.{set_pairs}
use Rattle.rl_equiv.specs.Numbering.{CompareOutcome, all_alike, one_differs, exceeded, IsCompareOutcome}
use Rattle.rl_pattern.specs.Suggested.{Verdict, equal, apart, undecided}
use Rattle.rl_ranges.specs.declared.letters.TheConstants.{MOST_LETTERS}
use Rattle.rl_syntax.specs.declared.limits.TheConstants.{MOST_NODES, MOST_MOVES}

-- The outcome of a comparison that has the same meaning as the verdict.
abbrev pub outcome_of : Verdict → CompareOutcome
outcome_of equal = all_alike
outcome_of apart = one_differs
outcome_of undecided = exceeded

-- Holds if the verdict on the trees is right. `equal` means that there are no more set pairs than the limit and that none of
-- them differs; `apart`, that one of the first set pairs up to the limit differs; and `undecided`, that there are more set
-- pairs than the limit and that none of the first ones differs.
abbrev pub IsVerdict : Universe → ℕ → Tree → Tree → Verdict → Type 0
IsVerdict u limit s t verdict = IsCompareOutcome (set_pairs u s t) limit (outcome_of verdict)

-- Holds if the limit is the first one, in the order of size, letters and moves, that the tree exceeds: its number of nodes,
-- its number of letters, or the length of its longest item list. It never holds for the limits on counted sets and live pairs,
-- which no tree exceeds by itself.
abbrev pub IsFirstExceeded : Universe → Tree → Limit → Type 0
IsFirstExceeded u t limit.Size = MOST_NODES < size t
IsFirstExceeded u t limit.Letters = (size t ≤ MOST_NODES) × (MOST_LETTERS < length (classes (all_sets t) (code_count u)))
IsFirstExceeded u t limit.Moves = (size t ≤ MOST_NODES) × (length (classes (all_sets t) (code_count u)) ≤ MOST_LETTERS) × (MOST_MOVES < longest t)
IsFirstExceeded u t limit.Sets = ⊥
IsFirstExceeded u t limit.Pairs = ⊥
