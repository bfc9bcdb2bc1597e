-- Suggestions: what is promised of an answer that says what can be left out of a pattern. Whether a branch can be left out is
-- tested by a search over set pairs, which are pairs of sets of states of two automata.
use Rattle.std.specs.Prelude.{ℕ, List, IfSome}
use Rattle.rl_ranges.specs.Text.{IsText}
use Rattle.rl_ranges.specs.declared.universe.Universe.{Universe}
use Rattle.rl_syntax.specs.Pattern.{pattern_tree, universe_of}
use Rattle.rl_syntax.specs.Tree.{Tree}
use Rattle.rl_syntax.specs.declared.pattern.Pattern.{Pattern}
use Rattle.rl_syntax.specs.declared.re.Mode.TheVariants.{Fullmatch}
use Rattle.rl_syntax.specs.declared.verdict.Limit.TheVariants as exceeded
use Rattle.rl_pattern.specs.declared.flags.Flags.{Flags}
use Rattle.rl_rewrite.specs.RightSuggestion.{IsRightSuggestion}
use Rattle.rl_rewrite.specs.Verdicts.{IsFirstExceeded}
use Rattle.rl_ask.specs.declared.answer.Answer.{Answer}
use Rattle.rl_ask.specs.declared.answer.Answer.TheVariants as answer
use Rattle.rl_ask.specs.declared.answer.Limit.{Limit}
use Rattle.rl_ask.specs.declared.answer.Limit.TheVariants as limit

-- The first limit that the tree exceeds: that of nodes (`Size`), of letters, or of what is tried at a point (`Moves`).
abbrev pub ExceedsFirst : Universe → Tree → Limit → Type 0
ExceedsFirst universe t limit.Size = IsFirstExceeded universe t exceeded.Size
ExceedsFirst universe t limit.Letters = IsFirstExceeded universe t exceeded.Letters
ExceedsFirst universe t limit.Moves = IsFirstExceeded universe t exceeded.Moves
ExceedsFirst universe t limit.Groups = ⊥

-- Holds if the answer is right for the pattern `p`, which was read from `w` under the flags: a right suggestion, whose text has
-- only codes of the pattern's universe, or the first limit that the pattern exceeds as `fullmatch` matches it. A test of a
-- branch may look at `pairs` set pairs.
abbrev pub IsSuggested : Flags → List ℕ → ℕ → Pattern → Answer → Type 0
IsSuggested flags w pairs p (answer.Suggested s) = IsRightSuggestion flags p w pairs s × IfSome s.text (IsText (universe_of p))
IsSuggested flags w pairs p (answer.Undecided first) = ExceedsFirst (universe_of p) (pattern_tree p Fullmatch) first
IsSuggested flags w pairs p _ = ⊥
