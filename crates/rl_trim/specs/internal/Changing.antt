-- For the functions that skip the letters on which a pair of sets has the same next pair as on the letter before. They use
-- rows of marks with an entry for each letter, without the end letter. Letters are numbered from 0.
use Rattle.std.specs.Prelude.{ℕ, Bool, List, All}
use Rattle.rl_prio.specs.Automaton.{Automaton}
use Rattle.rl_trim.specs.Changes.{IsSame}

-- Holds if `IsSame` holds with the row for each member of the set.
abbrev pub IsSameOn : Automaton → List Bool → List ℕ → Type 0
IsSameOn a row set = All (IsSame a row) set
