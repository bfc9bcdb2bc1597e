-- For private contracts: at which bytes the search for a name stops. The search examines the bytes in blocks. A byte is
-- ordinary if it is white space, a line end, a byte of a name, an operator character, a delimiter or a bracket.
use Rattle.std.specs.Prelude.{ℕ, ◌+◌, Bool, not, ◌&&◌, ◌||◌, ◌==◌, List, length, slice_index}
use Rattle.std.specs.Char.{is_ascii_lowercase}
use Rattle.rl_pylex.specs.internal.Absence.{is_ordinary}

-- Whether a search stops at `byte`: it isn't ordinary, or it is `first`, the next byte `behind` is `second`, and `after` isn't
-- a lower-case letter. `first` and `second` are the first two bytes of the name, and `after` is the byte that directly follows
-- the name if it begins at `byte`.
abbrev pub is_stop : ℕ → ℕ → ℕ → ℕ → ℕ → Bool
is_stop first second byte behind after =
    not (is_ordinary byte) || (byte == first && behind == second && not (is_ascii_lowercase after))

-- Whether a search for `name` stops at the place `k`: the byte there isn't ordinary, or the first two bytes of `name` are at
-- `k` and the byte at `k + length name` isn't a lower-case letter. So it may also stop where `name` isn't a whole word.
abbrev pub stops_at : List ℕ → List ℕ → ℕ → Bool
stops_at name text k =
    is_stop (slice_index name 0) (slice_index name 1) (slice_index text k) (slice_index text (k + 1))
    (slice_index text (k + length name))
