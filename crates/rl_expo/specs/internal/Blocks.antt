-- For the contracts of private functions: the components in which a fork may begin. `p` has the number of each state's
-- strongly connected component. A fork is two different moves of a state on one letter such that one word leads back to
-- the state from both targets.
use Rattle.std.specs.Prelude.{◌≡◌, ℕ, ◌<◌, Bool, false, List, length, slice_index_or}
use Rattle.rl_graph.specs.Graph.{Graph}
use Rattle.rl_graph.specs.Parts.{PartTable, number_of}
use Rattle.rl_expo.specs.internal.Forks.{AnyFork}
use Rattle.rl_expo.specs.internal.Search.{NoneStay}

-- Holds if there is a mark for each number of a component, at that number, and if it is false, no state below `end` of
-- the component has two moves on one letter that stay in the component. There are as many marks as states.
pub record AreForkingUpTo (g : Graph) (p : PartTable) (end : ℕ) (marks : List Bool) : Type 0 where
  pub size : length marks ≡ g.states
  pub right : (r l : ℕ) → r < end → l < g.letters → slice_index_or marks (number_of p r) false ≡ false → NoneStay g p r l

-- Holds if there is a mark for each number of a component, at that number, and if it is false, no state of the
-- component has two moves on one letter that stay in the component. There are as many marks as states.
abbrev pub AreForking : Graph → PartTable → List Bool → Type 0
AreForking g p marks = AreForkingUpTo g p g.states marks

-- Holds if no state of the component `c` has a fork.
abbrev pub HasNoForkIn : (ℕ → ℕ → List ℕ) → PartTable → ℕ → Type 0
HasNoForkIn next p c = (f : AnyFork next) → number_of p f.state ≡ c → ⊥

-- Holds if no state of the graph has a fork.
abbrev pub HasNoFork : (ℕ → ℕ → List ℕ) → Type 0
HasNoFork next = AnyFork next → ⊥
