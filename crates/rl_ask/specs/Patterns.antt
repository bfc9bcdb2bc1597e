-- Patterns: how a text is read as a pattern, and what a pattern is with its groups or without them. A text is given by its
-- bytes in UTF-8; its characters are the codes of the pattern. The terms of a question say under which flags, and in which
-- universe, its patterns are read: the universe is the codes of bytes patterns or of text patterns. The grammar of a question
-- says what of its patterns is read (`Grammars.antt`).
use Rattle.std.specs.Prelude.{◌≡◌, ◌≢◌, ◌<◌, Bool, Ok, Err, if◌then◌else◌}
use Rattle.std.specs.Str.{chars}
use Rattle.rl_ranges.specs.Text.{IsText}
use Rattle.rl_syntax.specs.Pattern.{body_of, trail_of, universe_of}
use Rattle.rl_syntax.specs.declared.pattern.Pattern.{Pattern}
use Rattle.rl_syntax.specs.declared.limits.TheConstants.{MOST_NODES}
use Rattle.rl_pattern.specs.declared.parsing.PatError.TheVariants as error
use Rattle.rl_marks.specs.Marked.{Marked, marked_of, nodes}
use Rattle.rl_marks.specs.Marking.{groups_in, pattern_marked}
use Rattle.rl_marks.specs.declared.limits.TheConstants.{MOST_GROUPS}
use Rattle.rl_marks.specs.declared.pattern.MarkedPattern.{MarkedPattern}
use Rattle.rl_asked.specs.Words.{Text}
use Rattle.rl_asked.specs.declared.question.Terms.{Terms}
use Rattle.rl_ask.specs.Grammars.{IsParsedIn}
use Rattle.rl_ask.specs.Ungrouped.{ungrouped}
use Rattle.rl_ask.specs.declared.answer.Answer.{Answer}
use Rattle.rl_ask.specs.declared.answer.Answer.TheVariants as answer
use Rattle.rl_ask.specs.declared.answer.Fault.{Fault}
use Rattle.rl_ask.specs.declared.answer.Fault.TheVariants as fault
use Rattle.rl_ask.specs.declared.answer.Limit.{Limit}
use Rattle.rl_ask.specs.declared.answer.Limit.TheVariants as limit
use Rattle.rl_ask.specs.declared.answer.Which.TheVariants as which
use Rattle.rl_ask.specs.declared.grammar.Grammar.{Grammar}

-- ---- reading

-- Holds if each character of the text is a code of the universe, and the grammar reads the text as the pattern `p`.
pub record IsReadAs (grammar : Grammar) (terms : Terms) (word : Text) (p : Pattern) : Type 0 where
  pub text : IsText terms.universe (chars word)
  pub parsed : IsParsedIn grammar terms.flags terms.universe (chars word) (Ok p)

-- Holds if the text is refused for the fault: it has a character above U+00FF and is to be a bytes pattern, or the
-- grammar refuses it. That memory ran out is no fault.
abbrev pub IsRefusedFor : Grammar → Terms → Text → Fault → Type 0
IsRefusedFor grammar terms word fault.NotBytes = IsText terms.universe (chars word) → ⊥
IsRefusedFor grammar terms word (fault.Pattern e) =
    IsText terms.universe (chars word) × IsParsedIn grammar terms.flags terms.universe (chars word) (Err e) × (e ≢ error.OutOfMemory)

-- Holds if the answer says that the only text is refused, with the fault, or if the text is read as a pattern for which `Next`
-- holds of the answer.
pub data ReadThen (grammar : Grammar) (terms : Terms) (word : Text) (Next : Pattern → Answer → Type 0) : Answer → Type 0 where
  refused : {f : Fault} → IsRefusedFor grammar terms word f → ReadThen grammar terms word Next (answer.Refused which.Only f)
  read : {p : Pattern} {found : Answer} → IsReadAs grammar terms word p → Next p found → ReadThen grammar terms word Next found

-- Holds if the answer says that the second text is refused, with the fault, or if the text is read as a pattern for which
-- `Next` holds of the answer.
pub data SecondReadThen (grammar : Grammar) (terms : Terms) (second : Text) (Next : Pattern → Answer → Type 0) : Answer → Type 0 where
  second_refused : {f : Fault} → IsRefusedFor grammar terms second f → SecondReadThen grammar terms second Next (answer.Refused which.Second f)
  second_read : {q : Pattern} {found : Answer} → IsReadAs grammar terms second q → Next q found → SecondReadThen grammar terms second Next found

-- Holds if the answer says that the first text is refused, with the fault, or if the first text is read as a pattern, and the
-- answer says that the second text is refused, or both are read as patterns for which `Next` holds of the answer.
pub data BothReadThen (grammar : Grammar) (terms : Terms) (first second : Text) (Next : Pattern → Pattern → Answer → Type 0) : Answer → Type 0 where
  first_refused : {f : Fault} → IsRefusedFor grammar terms first f → BothReadThen grammar terms first second Next (answer.Refused which.First f)
  first_read : {p : Pattern} {found : Answer} → IsReadAs grammar terms first p → SecondReadThen grammar terms second (Next p) found
      → BothReadThen grammar terms first second Next found

-- ---- groups

-- The tree of a pattern with its groups if the flag is true, and otherwise without them.
abbrev pub tree_with : Bool → Pattern → Marked
tree_with groups p = if groups then pattern_marked p else ungrouped (pattern_marked p)

-- Holds if `m` is the pattern `p` with its groups if the flag is true, and otherwise without them.
pub record IsMarkedAs (groups : Bool) (p : Pattern) (m : MarkedPattern) : Type 0 where
  pub tree : marked_of m.tree ≡ tree_with groups p
  pub trailing : m.trailing ≡ trail_of p
  pub universe : m.universe ≡ universe_of p
  pub count : m.groups ≡ (if groups then groups_in (body_of p) else 0)

-- Holds if the pattern alone exceeds the limit, so that its groups aren't looked at: its tree has too many nodes, or it has too
-- many groups.
abbrev pub ExceedsItself : Pattern → Limit → Type 0
ExceedsItself p limit.Size = MOST_NODES < nodes (pattern_marked p)
ExceedsItself p limit.Groups = MOST_GROUPS < groups_in (body_of p)
ExceedsItself p limit.Letters = ⊥
ExceedsItself p limit.Moves = ⊥
