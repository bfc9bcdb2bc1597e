-- For the contracts of private functions: what is proved of the result of `degree`. A split is two different states `r`
-- and `q` with paths from `r` to `r`, from `r` to `q` and from `q` to `q` along one word. In a chain of splits from a
-- state, the state reaches the first state of the first split, and the second state of each split reaches the first
-- state of the next one. The rank of a state is the number of splits in a longest chain from it. A loop is a state on a
-- cycle with a non-empty word that leads from it back to it.
use Rattle.std.specs.Prelude.{ℕ, ◌<◌, ◌≤◌, List, length, All, IfSome, IfNone}
use Rattle.rl_graph.specs.Twins.{Link, ChainFrom}
use Rattle.rl_degree.specs.declared.chains.Split.{Split}
use Rattle.rl_degree.specs.declared.chains.Chain.{Chain}
use Rattle.rl_degree.specs.Chains.{IsSplitIn, IsChain, AreRanks, IsLoop, HasNoCycle}

-- Holds if the splits are a chain of states below `n`, and no chain of splits that is reached from a state below `n`
-- has more links.
pub record AreLongest (next : ℕ → ℕ → List ℕ) (n : ℕ) (links : List Split) : Type 0 where
  pub chained : IsChain next links
  pub states : All (IsSplitIn n) links
  pub longest : (s : ℕ) (ms : List Link) → s < n → ChainFrom next s ms → length ms ≤ length links

-- Holds if `c` has a longest chain of splits, the rank of each state below `n`, and a loop if and only if the graph has
-- a cycle.
pub record IsGreatest (next : ℕ → ℕ → List ℕ) (n : ℕ) (c : Chain) : Type 0 where
  pub chain : AreLongest next n c.links
  pub ranks : AreRanks next n c.ranks
  pub cycle : IfSome c.cycle (IsLoop next n)
  pub no_cycle : IfNone c.cycle (HasNoCycle next)
