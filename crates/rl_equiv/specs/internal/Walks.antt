-- Walks that begin with one set of states. A walk is a list of different sets of states of an automaton, numbered from 0, with
-- a limit on their number.
use Rattle.std.specs.Prelude.{◌≡◌, suc, ◌<◌, ◌≤◌, length}
use Rattle.rl_prio.specs.Automaton.{Automaton}
use Rattle.rl_sets.specs.Walk.{Walk, set_at, IsMadeFor}

-- The walk belongs to the automaton, has at least one set, and has the limit of 20,003 sets.
pub record IsBegun (a : Automaton) (w : Walk) : Type 0 where
  pub made : IsMadeFor w a
  pub some : 0 < length w.sets
  pub limit : w.limit ≡ 20003

-- The walk `new` belongs to the automaton and has the limit of 20,003 sets (`IsBegun`). It has at most one set more than the
-- walk `old`, and its first set is the same.
pub record GoesOn (a : Automaton) (old new : Walk) : Type 0 where
  pub begun : IsBegun a new
  pub few : length new.sets ≤ suc (length old.sets)
  pub first : set_at new 0 ≡ set_at old 0
