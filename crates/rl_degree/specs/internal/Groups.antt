-- For the contracts of private functions: the states of each component as a linked list in ascending order. `firsts`
-- has the first state of each component, and `nexts` has the next state of the same component for each state. The entry
-- `n`, the number of states, means that there is none. `p` has the number of each state's component. A component is a
-- strongly connected component of the graph.
use Rattle.std.specs.Prelude.{◌≡◌, ℕ, ◌+◌, ◌<◌, ◌≤◌, List, length, slice_index}
use Rattle.rl_graph.specs.Parts.{PartTable, number_of}

-- Holds if `k` is the least state of the component `c` that is at least `from`, or `n` if there is none.
pub record IsFirstFrom (p : PartTable) (n c from k : ℕ) : Type 0 where
  pub above : from ≤ k
  pub within : k ≤ n
  pub member : k < n → number_of p k ≡ c
  pub least : (q : ℕ) → from ≤ q → q < k → number_of p q ≡ c → ⊥

-- Holds if the lists are right for the states that are at least `from`: `firsts` has the least such state of each
-- component, and `nexts` has, for each such state, the next one of its component. If there is none, the entry is `n`.
pub record AreGroupsFrom (p : PartTable) (n from : ℕ) (firsts nexts : List ℕ) : Type 0 where
  pub firsts_size : length firsts ≡ n
  pub nexts_size : length nexts ≡ n
  pub first : (c : ℕ) → c < n → IsFirstFrom p n c from (slice_index firsts c)
  pub next : (q : ℕ) → from ≤ q → q < n → IsFirstFrom p n (number_of p q) (q + 1) (slice_index nexts q)
