-- Costs: what is promised of an answer that says how many steps a match of a text takes.
use Rattle.std.specs.Prelude.{◌<◌, ◌≤◌, ℕ, List, length, map}
use Rattle.std.specs.Str.{chars}
use Rattle.rl_ranges.specs.declared.universe.Universe.{Universe}
use Rattle.rl_syntax.specs.Pattern.{pattern_ending, pattern_tree, universe_of}
use Rattle.rl_syntax.specs.declared.pattern.Pattern.{Pattern}
use Rattle.rl_syntax.specs.Tree.{Tree}
use Rattle.rl_syntax.specs.declared.re.Ending.{Ending}
use Rattle.rl_syntax.specs.declared.re.Mode.{Mode}
use Rattle.rl_syntax.specs.declared.verdict.Family.{Family}
use Rattle.rl_machine.specs.Counts.{ShowsCost}
use Rattle.rl_asked.specs.Words.{Text}
use Rattle.rl_asked.specs.declared.question.Terms.{Terms}
use Rattle.rl_ask.specs.Grammars.{grammar_in}
use Rattle.rl_ask.specs.Patterns.{ReadThen}
use Rattle.rl_ask.specs.Suggestions.{ExceedsFirst}
use Rattle.rl_ask.specs.declared.answer.Answer.{Answer}
use Rattle.rl_ask.specs.declared.answer.Answer.TheVariants as answer
use Rattle.rl_ask.specs.declared.answer.Limit.{Limit}
use Rattle.rl_ask.specs.declared.limits.TheConstants.{MOST_TEXT_CODES}

-- Holds if the answer is right for a tree, where its matches may end, and a text: if the tree exceeds no limit, the exact cost
-- of the text, and whether it is matched; and otherwise the first limit that the tree exceeds.
abbrev pub IsTreeCost : Universe → Tree → Ending → List ℕ → Answer → Type 0
IsTreeCost universe t at w (answer.Cost counted) = ((l : Limit) → ExceedsFirst universe t l → ⊥) × ShowsCost counted t at w
IsTreeCost universe t at w (answer.Undecided first) = ExceedsFirst universe t first
IsTreeCost universe t at w _ = ⊥

-- Holds if the answer is right for a pattern and a text, in the mode.
abbrev pub IsCost : Mode → List ℕ → Pattern → Answer → Type 0
IsCost mode w p found = IsTreeCost (universe_of p) (pattern_tree p mode) (pattern_ending p mode) w found

-- Holds if the answer is right for the text of a pattern and a text `w`: it says that `w` has too many codes if it has, and
-- otherwise it is right for the pattern that is read, or says that this is refused.
pub data IsCostOf (terms : Terms) (pattern : Text) (mode : Mode) (w : List ℕ) : Answer → Type 0 where
  too_long : MOST_TEXT_CODES < length w → IsCostOf terms pattern mode w answer.TextTooLong
  counted : {found : Answer} → length w ≤ MOST_TEXT_CODES → ReadThen (grammar_in mode) terms pattern (IsCost mode w) found → IsCostOf terms pattern mode w found

-- The family with these heads and pumps. Its string for a number is `family_text` (`specs/Family.antt` of `rl_syntax`).
abbrev pub family_named : List Text → List Text → Family
family_named heads pumps = record { heads = map chars heads; pumps = map chars pumps }
