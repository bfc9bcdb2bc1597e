-- Sets of states as rows of bits: the bit with the index `q` says whether the state `q` is a member.
use Rattle.std.specs.Prelude.{ℕ, Bool, true, false, List, [], ◌∷◌, length, filter, slice_index_or, slice_set}
use Rattle.rl_sets.specs.Live.{below}

-- The members of the set that a row represents, in increasing order.
unfoldable pub members_of : List Bool → List ℕ
members_of row = filter (λ q. slice_index_or row q false) (below (length row))

-- The row with the bits of the listed states set too. States beyond the end of the row change nothing.
abbrev pub marked : List Bool → List ℕ → List Bool
marked row [] = row
marked row (q ∷ qs) = marked (slice_set row q true) qs
