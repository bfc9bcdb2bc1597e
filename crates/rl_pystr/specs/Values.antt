-- The value of a literal's body: its code points, each with the byte place of the code point or escape that gives it. A place
-- is a byte index in the source, counted from 0. A unit is a single code point, a line end or an escape. A refusal is the
-- error that a body without a value gives.
use Rattle.std.specs.Prelude.{◌≡◌, ⊤, ℕ, zero, suc, ◌+◌, ◌-◌, Bool, List, [], ◌∷◌, ◌++◌, Result, Ok, Err}
use Rattle.std.specs.Char.{len_utf8}
use Rattle.rl_pystr.specs.declared.escapes.Cause.{Cause}
use Rattle.rl_pystr.specs.declared.escapes.Cause.TheVariants as cause
use Rattle.rl_pystr.specs.declared.escapes.Gives.{Gives}
use Rattle.rl_pystr.specs.declared.escapes.Gives.TheVariants.{Nothing, One, Both, Refuses}
use Rattle.rl_pystr.specs.declared.fault.StrError.{StrError}
use Rattle.rl_pystr.specs.declared.fault.StrError.TheVariants as error
use Rattle.rl_pystr.specs.declared.placed.Placed.{Placed}
use Rattle.rl_pystr.specs.Escapes.{unit, size_of}

-- The value without code points.
abbrev pub empty : Placed
empty = record { codes = []; places = [] }

-- The code points of `a` and then those of `b`, with their places.
abbrev pub joined : Placed → Placed → Placed
joined a b = record { codes = a.codes ++ b.codes; places = a.places ++ b.places }

-- The values of two results joined together in order or, if one or both are refusals, the first refusal.
abbrev pub joined_results : Result Placed StrError → Result Placed StrError → Result Placed StrError
joined_results (Ok a) (Ok b) = Ok (joined a b)
joined_results (Ok a) (Err e) = Err e
joined_results (Err e) r = Err e

-- The error for this cause, with this place.
abbrev pub refusal : Cause → ℕ → StrError
refusal cause.BadEscape place = error.BadEscape place
refusal cause.NamedEscape place = error.NamedEscape place
refusal cause.NotAscii place = error.NotAscii place

-- The value of a unit that begins at the place `place`, or its refusal, by what the unit gives. All code points that an escape
-- gives have the place of its backslash.
abbrev pub given : Gives → ℕ → Result Placed StrError
given (Nothing size) place = Ok empty
given (One code size) place = Ok (record { codes = code ∷ []; places = place ∷ [] })
given (Both code) place = Ok (record { codes = 92 ∷ code ∷ []; places = place ∷ place ∷ [] })
given (Refuses cause offset) place = Err (refusal cause (place + offset))

-- The value of a body whose first code point is at the place `place`, or its first refusal. `raw` says whether the literal is
-- raw, and `bytes` whether it is one of bytes. The first `skip` code points give nothing, because they belong to a unit that
-- was read before.
abbrev pub value_from : Bool → Bool → ℕ → ℕ → List ℕ → Result Placed StrError
value_from raw bytes place skip [] = Ok empty
value_from raw bytes place (suc skip) (c ∷ text) = value_from raw bytes (place + len_utf8 c) skip text
value_from raw bytes place zero (c ∷ text) =
    joined_results (given (unit raw bytes (c ∷ text)) place)
    (value_from raw bytes (place + len_utf8 c) (size_of (unit raw bytes (c ∷ text)) - 1) text)

-- Holds if the error is the refusal that the result `r` is, or if it is `OutOfMemory`, whatever the result is.
abbrev pub IsRefused : Result Placed StrError → StrError → Type 0
IsRefused r error.OutOfMemory = ⊤
IsRefused r e = r ≡ Err e
