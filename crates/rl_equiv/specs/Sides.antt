-- Walks over the sets of one of two automata that are read side by side. A walk is a list of different sets of states of an
-- automaton, numbered from 0, with a limit on their number. A set pair is two sets, one of each automaton.
use Rattle.std.specs.Prelude.{◌≡◌, ℕ, ◌+◌, ◌<◌, [], ◌∷◌, length, Option, None, Some, Contains}
use Rattle.rl_prio.specs.Automaton.{Automaton, accepting_state}
use Rattle.rl_sets.specs.Walk.{Walk, set_of, IsMadeFor}

-- The walk belongs to the automaton, its limit is 60,000 sets, and it has the two sets to which the end letter may lead: the
-- empty one and the one with only the accepting state. It has room for `limit + 1 - count` more sets, where `limit` is the
-- most set pairs that a search looks at, and `count` is how many it has found so far; so there is room for one more set with
-- each set pair until more than `limit` are found.
pub record IsSide (a : Automaton) (limit count : ℕ) (w : Walk) : Type 0 where
  pub made : IsMadeFor w a
  pub limit_is : w.limit ≡ 60000
  pub room : length w.sets + limit < 60000 + count
  pub has_none : Contains w.sets (set_of a [])
  pub has_end : Contains w.sets (set_of a (accepting_state a ∷ []))

-- The walk that is kept from one search to the next belongs to the automaton, its limit is 60,000 sets, and it has the two
-- sets to which the end letter may lead. It may have no room. If no walk is kept, nothing is required.
abbrev pub IsKeptSide : Automaton → Option Walk → Type 0
IsKeptSide a None = Unit {0}
IsKeptSide a (Some w) = IsSide a 0 1 w
