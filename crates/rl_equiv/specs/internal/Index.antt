-- For the check of a relation, which is a list of set pairs: its index, whose keys are the set pairs of the relation. A set
-- pair is two sets of states.
use Rattle.std.specs.Prelude.{◌↔◌, List, Contains}
use Rattle.rl_equiv.specs.declared.pair.SetPair.{SetPair}
use Rattle.rl_equiv.specs.declared.index.Sets.{Sets}

-- The set pair that a key of the index represents.
abbrev pub pair_of_sets : Sets → SetPair
pair_of_sets s = record { first = s.first.items; second = s.second.items }

-- The two lists have the same set pairs, in any order and any number of times.
abbrev pub HoldTheSame : List SetPair → List SetPair → Type 0
HoldTheSame index relation = (p : SetPair) → Contains index p ↔ Contains relation p
