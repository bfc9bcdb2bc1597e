-- For the contracts of private functions: what may happen to a walk that is asked for the number of a set. A walk is a list of
-- different sets with a limit on their number; the number of a set is its index in the list, from 0.
use Rattle.std.specs.Prelude.{◌≡◌, ℕ, ◌<◌, ◌≤◌, List, length, Result, IfOk, IfErr, OnErr}
use Rattle.rl_prio.specs.Automaton.{Automaton}
use Rattle.rl_sets.specs.declared.error.SetsError.{SetsError}
use Rattle.rl_sets.specs.declared.error.SetsError.TheVariants.{Sets}
use Rattle.rl_sets.specs.Walk.{Walk, IsMadeFor, IsListed, IsFull}

-- Holds if asking the walk `old` for the number of `set` may give `result` and the walk `new`, which belongs to the automaton
-- and has the limit of `old`. If the result is a number, it is the number of the set in `new`, which is `old`, with the set
-- appended if it wasn't there. If the result is an error, the sets are unchanged, and the error is `Sets` only if the set
-- wasn't there and `old` had as many sets as its limit allows.
pub record IsAsked (a : Automaton) (old new : Walk) (set : List ℕ) (result : Result ℕ SetsError) : Type 0 where
  pub listed : IfOk result (IsListed old.sets new.sets set)
  pub inside : IfOk result (λ n. n < length new.sets)
  pub longer : length old.sets ≤ length new.sets
  pub made : IsMadeFor new a
  pub limit : new.limit ≡ old.limit
  pub full : IfErr result (λ e. e ≡ Sets → IsFull old.sets old.limit set)
  pub unchanged : OnErr result (new.sets ≡ old.sets)
