-- Strings of families that are too long.
use Rattle.std.specs.Prelude.{◌<◌, ℕ, List, length, ⊤}
use Rattle.rl_ask.specs.declared.family.TextError.{TextError}
use Rattle.rl_ask.specs.declared.family.TextError.TheVariants as error
use Rattle.rl_ask.specs.declared.limits.TheConstants.{MOST_TEXT_CODES}

-- The error is that of the length, and the string has more than `MOST_TEXT_CODES` codes; nothing is claimed if memory runs out.
abbrev pub IsLong : TextError → List ℕ → Type 0
IsLong error.TooLong w = MOST_TEXT_CODES < length w
IsLong error.OutOfMemory w = ⊤
