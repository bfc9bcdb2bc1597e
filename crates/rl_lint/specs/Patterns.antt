-- How a run begins that first parses a pattern. The reader of patterns parses code points as a pattern, or refuses them with
-- an error. In a pattern's syntax tree `t`, `at` (a `MatchEnd`) says where a match may end. A question asks how the cost of
-- matching a syntax tree grows with the length of the text; a verdict answers it: a degree, exponential, or undecided because
-- a limit is exceeded. An ending says what the run does: it refuses with a message, it reports an unreadable file with a
-- message, or it writes a text.
use Rattle.std.specs.Prelude.{◌≡◌, ℕ, List, Option, Some, None, Ok, Err, codes}
use Rattle.rl_ranges.specs.declared.universe.Universe.TheVariants.{Str}
use Rattle.rl_syntax.specs.Tree.{Tree}
use Rattle.rl_syntax.specs.declared.re.Ending.{Ending as MatchEnd}
use Rattle.rl_syntax.specs.declared.re.Mode.{Mode}
use Rattle.rl_syntax.specs.Pattern.{pattern_ending, pattern_tree}
use Rattle.rl_syntax.specs.declared.pattern.Pattern.{Pattern}
use Rattle.rl_pattern.specs.Codes.{no_flags}
use Rattle.rl_pattern.specs.Parsed.{IsParsed}
use Rattle.rl_pattern.specs.declared.parsing.PatError.{PatError}
use Rattle.rl_pattern.specs.declared.parsing.PatError.TheVariants as error
use Rattle.rl_pairs.specs.RightVerdict.{Question}
use Rattle.rl_report.specs.Names.{feature_name}
use Rattle.rl_lint.specs.Endings.{Ending, refuses}
use Rattle.rl_lint.specs.Messages.{refused_at}
use Rattle.rl_report.specs.Names.{Text}

-- The message on a pattern that the reader of patterns refuses, with the code point of the fault counted from 0, except for a
-- pattern that is too long. None if memory ran out, which isn't a refusal.
abbrev pub refusal : PatError → Option Text
refusal (error.Syntax place) = Some (refused_at (codes "syntax") place)
refusal (error.TooDeep place) = Some (refused_at (codes "too-deep") place)
refusal (error.Outside place feature) = Some (refused_at (feature_name feature) place)
refusal error.TooLong = Some (codes "relint: refused too-long\n")
refusal error.OutOfMemory = None

-- The reader of patterns refuses these code points, read as a pattern of type `str` without flags, for another reason than
-- that memory ran out, and `message` is the message on it.
abbrev pub IsRefusedPattern : List ℕ → Text → Type 0
IsRefusedPattern pattern message = (e : PatError) × IsParsed no_flags Str pattern (Err e) × (refusal e ≡ Some message)

-- If the reader of patterns refuses the code points `pattern`, the run ends with the message on it. Otherwise `Next` says how
-- it ends, given the pattern's syntax tree and where a match may end, both in `mode`.
pub data ParsesThen (pattern : List ℕ) (mode : Mode) (Next : Tree → MatchEnd → Ending → Type 0) : Ending → Type 0 where
  pattern_refused : {message : Text} → IsRefusedPattern pattern message → ParsesThen pattern mode Next (refuses message)
  pattern_parsed : {p : Pattern} {ending : Ending} → IsParsed no_flags Str pattern (Ok p) → Next (pattern_tree p mode) (pattern_ending p mode) ending
      → ParsesThen pattern mode Next ending

-- The question that `class`, `prove` and `verify` ask about a syntax tree, with where its matches may end, for texts of type
-- `str`. The number is the greatest number of live pairs that is examined; a live pair is a state of the pattern's automaton
-- with the set of states that were tried before it.
abbrev pub text_question : ℕ → Tree → MatchEnd → Question
text_question max_pairs t at = record { tree = t; ending = at; universe = Str; max_pairs = max_pairs }
