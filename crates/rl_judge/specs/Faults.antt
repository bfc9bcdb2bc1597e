-- The byte places of faults in sources, literals and patterns. A byte place is the number of bytes of the source before it.
-- The value of literals is a list of code points, and for each of them a literal has the byte place in the source where it is
-- spelled.
use Rattle.std.specs.Prelude.{ℕ, Option, Some, None, slice_get, unwrap_or}
use Rattle.rl_pylex.specs.declared.fault.LexError.{LexError}
use Rattle.rl_pylex.specs.declared.fault.LexError.TheVariants as lexing
use Rattle.rl_pystr.specs.declared.fault.StrError.{StrError}
use Rattle.rl_pystr.specs.declared.fault.StrError.TheVariants as valuing
use Rattle.rl_pystr.specs.declared.literal.Literal.{Literal}
use Rattle.rl_pattern.specs.declared.parsing.PatError.{PatError}
use Rattle.rl_pattern.specs.declared.parsing.PatError.TheVariants as parsing

-- The byte place of a fault that keeps a source from being cut into tokens, or none if the fault has no place.
abbrev pub source_fault : LexError → Option ℕ
source_fault (lexing.NotUtf8 byte) = Some byte
source_fault (lexing.Coding byte) = Some byte
source_fault (lexing.Unterminated byte) = Some byte
source_fault (lexing.StrayCode byte) = Some byte
source_fault _ = None

-- The byte place of a fault that leaves literals without a value, or none if the fault has no place.
abbrev pub literal_fault : StrError → Option ℕ
literal_fault (valuing.BadEscape byte) = Some byte
literal_fault (valuing.NamedEscape byte) = Some byte
literal_fault (valuing.NotAscii byte) = Some byte
literal_fault _ = None

-- The byte place in the source of a code point of the literals' value, counted from 0. For the place after the last code
-- point, or any later one, it is the place where the closing quotes of the last literal begin.
abbrev pub code_place : Literal → ℕ → ℕ
code_place literal code = unwrap_or (slice_get literal.places code) literal.end

-- The byte place of the fault in code points that don't spell a pattern that can be judged, or none if the fault has no place.
abbrev pub pattern_fault : Literal → PatError → Option ℕ
pattern_fault literal (parsing.Syntax code) = Some (code_place literal code)
pattern_fault literal (parsing.TooDeep code) = Some (code_place literal code)
pattern_fault literal (parsing.Outside code feature) = Some (code_place literal code)
pattern_fault literal _ = None
