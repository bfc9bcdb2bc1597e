-- Grammars: what of a pattern is read, by what a question asks of it. The profile is what `relint` reads (`specs/Parsed.antt`
-- of `rl_pattern`). A wider grammar reads lookarounds of one character too, and a `$` without MULTILINE that ends the pattern
-- inside a group or a branch (`specs/Beyond.antt` there). What becomes of that `$` depends on what is asked.
use Rattle.std.specs.Prelude.{ℕ, List, Result}
use Rattle.rl_ranges.specs.declared.universe.Universe.{Universe}
use Rattle.rl_syntax.specs.declared.pattern.Pattern.{Pattern}
use Rattle.rl_syntax.specs.declared.re.Mode.{Mode}
use Rattle.rl_syntax.specs.declared.re.Mode.TheVariants.{Fullmatch, Match, Search}
use Rattle.rl_pattern.specs.Beyond.{IsParsedBeyond}
use Rattle.rl_pattern.specs.Parsed.{IsParsed}
use Rattle.rl_pattern.specs.declared.flags.Flags.{Flags}
use Rattle.rl_pattern.specs.declared.parsing.PatError.{PatError}
use Rattle.rl_pattern.specs.declared.profile.Dollar.TheVariants.{Refused, Dropped, LastLine}
use Rattle.rl_ask.specs.declared.grammar.Grammar.{Grammar}
use Rattle.rl_ask.specs.declared.grammar.Grammar.TheVariants.{Profile, Wider}

-- Holds if the result of parsing by the grammar is right for the codes.
abbrev pub IsParsedIn : Grammar → Flags → Universe → List ℕ → Result Pattern PatError → Type 0
IsParsedIn Profile flags u w found = IsParsed flags u w found
IsParsedIn (Wider dollar) flags u w found = IsParsedBeyond dollar flags u w found

-- The grammar of a question about matches in the mode. By `fullmatch`, a match ends at the end of the text anyway, so that the
-- `$` is dropped. By `match` and `search`, it becomes an optional line feed and the end of the text.
abbrev pub grammar_in : Mode → Grammar
grammar_in Fullmatch = Wider Dropped
grammar_in Match = Wider LastLine
grammar_in Search = Wider LastLine

-- The grammar of a question about what patterns find. A match found may end before the last line feed, so that the `$` is
-- refused.
abbrev pub grammar_of_finds : Grammar
grammar_of_finds = Wider Refused
