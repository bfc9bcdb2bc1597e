-- Limits: what has to be too much for the check and the search to give up with an error that names a limit. The places of a
-- tree are its tests of a code, numbered from left to right. Its items at a point are what a matcher tries next there, in
-- order: tests, each by its place, and ends of the tree. `first` lists those on entering the tree, and `after` those behind a
-- place (`rl_marks`).
use Rattle.std.specs.Prelude.{ℕ, ◌+◌, ◌^◌, ◌<◌, ◌≤◌, ◌⊎◌, ◌++◌, List, length}
use Rattle.rl_ranges.specs.declared.letters.TheConstants.{MOST_LETTERS}
use Rattle.rl_ranges.specs.Letters.{classes}
use Rattle.rl_ranges.specs.Text.{code_count}
use Rattle.rl_ranges.specs.declared.universe.Universe.{Universe}
use Rattle.rl_syntax.specs.declared.limits.TheConstants.{MOST_MOVES, MOST_NODES}
use Rattle.rl_prio.specs.Letters.{all_sets}
use Rattle.rl_marks.specs.Marked.{Marked, marked_of, nodes, plain}
use Rattle.rl_marks.specs.MarkItems.{places, first, after}
use Rattle.rl_marks.specs.SameFinds.{matcher_in}
use Rattle.rl_marks.specs.Seeking.{asked_in}
use Rattle.rl_marks.specs.declared.asked.How.{How}
use Rattle.rl_marks.specs.declared.pattern.MarkedPattern.{MarkedPattern}
use Rattle.rl_spans.specs.declared.error.SpansError.{SpansError}
use Rattle.rl_spans.specs.declared.error.SpansError.TheVariants.{Size, Letters, Moves, Text, OutOfMemory}

-- Behind each place of the tree `t`, whose first place has the number `b`, at most `MOST_MOVES` items are tried.
abbrev pub IsShortBehind : Marked → ℕ → Type 0
IsShortBehind t b = (p : ℕ) → b ≤ p → p < b + places t → length (after t b p) ≤ MOST_MOVES

-- At most `MOST_MOVES` items are tried on entering the tree `t`, whose first place has the number `b`, and behind each of its
-- places.
pub record IsShort (t : Marked) (b : ℕ) : Type 0 where
  pub entering : length (first t b) ≤ MOST_MOVES
  pub behind : IsShortBehind t b

-- The tree that a comparison runs, for a pattern that is asked as `how` says. With `Fullmatch` and `Match` it is the pattern's
-- own tree. With `OneSearch` it first takes as few codes of the universe as can be, as group 0, and so has four nodes more.
abbrev pub asked_tree : How → Universe → MarkedPattern → Marked
asked_tree how u p = (asked_in how u (matcher_in how p)).tree

-- The letters of both trees, each by its least code. Two codes of the universe are one letter if each set of either tree, and
-- each set that a guard of either tree names, holds both or neither of them.
abbrev pub letters_of_both : Universe → Marked → Marked → List ℕ
letters_of_both u s t = classes (all_sets (plain s) ++ all_sets (plain t)) (code_count u)

-- What holds of two patterns, `a` and `b`, over the universe of `a` if their comparison ends with the error. `Size`: one of
-- the trees that are run has too many nodes. `Letters`: both trees have too many letters. `Moves`: too many items are tried at
-- a point of one of the trees. `Text` never comes, and of `OutOfMemory` nothing is said.
abbrev pub IsCause : How → MarkedPattern → MarkedPattern → SpansError → Type 0
IsCause how a b Size = (MOST_NODES < nodes (asked_tree how a.universe a)) ⊎ (MOST_NODES < nodes (asked_tree how a.universe b))
IsCause how a b Letters = MOST_LETTERS < length (letters_of_both a.universe (asked_tree how a.universe a) (asked_tree how a.universe b))
IsCause how a b Moves = ¬ (IsShort (asked_tree how a.universe a) 0 × IsShort (asked_tree how a.universe b) 0)
IsCause how a b Text = ⊥
IsCause how a b OutOfMemory = Unit {0}

-- What holds of the pattern `p` and the text `w` if a run of the pattern on the text ends with the error. `Moves`: too many
-- items are tried at a point of the pattern's own tree. `Text`: the text has 2^32 codes or more. `Size` and `Letters` never
-- come, and of `OutOfMemory` nothing is said.
abbrev pub IsCauseAlone : MarkedPattern → List ℕ → SpansError → Type 0
IsCauseAlone p w Size = ⊥
IsCauseAlone p w Letters = ⊥
IsCauseAlone p w Moves = ¬ IsShort (marked_of p.tree) 0
IsCauseAlone p w Text = 2 ^ 32 ≤ length w
IsCauseAlone p w OutOfMemory = Unit {0}
