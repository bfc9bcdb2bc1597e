-- What is read of a text, as the program keeps it.
use Rattle.std.specs.Prelude.{Bool}
use Rattle.rl_syntax.specs.declared.pattern.Pattern.{Pattern}
use Rattle.rl_asked.specs.Words.{Text}
use Rattle.rl_asked.specs.declared.question.Terms.{Terms}
use Rattle.rl_ask.specs.Patterns.{IsMarkedAs, IsReadAs, IsRefusedFor, ExceedsItself}
use Rattle.rl_ask.specs.declared.grammar.Grammar.{Grammar}
use Rattle.rl_ask.specs.declared.patterns.MarkedRead.{MarkedRead}
use Rattle.rl_ask.specs.declared.patterns.MarkedRead.TheVariants.{Exceeds, Marked}
use Rattle.rl_ask.specs.declared.patterns.PatternRead.{PatternRead}
use Rattle.rl_ask.specs.declared.patterns.PatternRead.TheVariants.{Refused, Read}

-- Holds if the text is refused for the fault that is given, or read as the pattern that is given.
abbrev pub IsPatternRead : Grammar → Terms → Text → PatternRead → Type 0
IsPatternRead grammar terms word (Refused f) = IsRefusedFor grammar terms word f
IsPatternRead grammar terms word (Read p) = IsReadAs grammar terms word p

-- Holds if the pattern exceeds the limit that is given, or is the one that is given, with its groups or without them.
abbrev pub IsMarkedRead : Bool → Pattern → MarkedRead → Type 0
IsMarkedRead groups p (Exceeds exceeded) = ExceedsItself p exceeded
IsMarkedRead groups p (Marked m) = IsMarkedAs groups p m
