-- For private contracts: a parsed pattern argument as the program keeps it.
use Rattle.std.specs.Prelude.{◌≡◌, ℕ, List, Ok}
use Rattle.rl_ranges.specs.declared.universe.Universe.TheVariants.{Str}
use Rattle.rl_syntax.specs.Pattern.{universe_of}
use Rattle.rl_pattern.specs.Codes.{no_flags}
use Rattle.rl_pattern.specs.Parsed.{IsParsed}
use Rattle.rl_lint.specs.internal.Plans.{message_text}
use Rattle.rl_lint.specs.Patterns.{IsRefusedPattern}
use Rattle.rl_lint.specs.declared.pattern_argument.PatternArgument.{PatternArgument}
use Rattle.rl_lint.specs.declared.pattern_argument.PatternArgument.TheVariants.{Refused, Parsed}

-- The result is right for the code points `pattern`: it is the message on their refusal by the reader of patterns, or the
-- pattern that they spell without flags, which is one of type `str`.
abbrev pub IsArgument : List ℕ → PatternArgument → Type 0
IsArgument pattern (Refused message) = IsRefusedPattern pattern (message_text message)
IsArgument pattern (Parsed p) = IsParsed no_flags Str pattern (Ok p) × (universe_of p ≡ Str)
