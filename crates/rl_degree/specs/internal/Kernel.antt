-- For the contracts of private functions: the kernel, a list of the states on cycles, between which splits can lead.
-- The table `p` has the number of each state's component and says which states lie on cycles. A component is a strongly
-- connected component of the graph.
use Rattle.std.specs.Prelude.{◌≡◌, ℕ, ◌<◌, true}
use Rattle.rl_graph.specs.Parts.{PartTable, number_of, cycle_of}
use Rattle.rl_kernel.specs.Members.{is_member}
use Rattle.rl_kernel.specs.Seats.{Seats, AreSeats, HoldsUpTo}

-- Holds if all states below `n` that lie on cycles are in the component `k`.
abbrev pub IsOneComponent : PartTable → ℕ → ℕ → Type 0
IsOneComponent p n k = (q : ℕ) → q < n → cycle_of p q ≡ true → number_of p q ≡ k

-- Holds if the list has each state below `end` that lies on a cycle, with its right place and component number. It may
-- have other states below `end`.
abbrev pub IsKernelUpTo : PartTable → ℕ → ℕ → Seats → Type 0
IsKernelUpTo p n end s = HoldsUpTo (cycle_of p) p n end s

-- Holds if the list has right places and component numbers, and, unless all states on cycles are in one component, has
-- all states on cycles. `n` is the number of states of the graph.
pub record IsKernel (p : PartTable) (n : ℕ) (s : Seats) : Type 0 where
  pub seats : AreSeats p n n s
  pub covers : (r q : ℕ) → r < n → q < n → cycle_of p r ≡ true → cycle_of p q ≡ true → number_of p q < number_of p r
      → (is_member s.states s.places r ≡ true) × (is_member s.states s.places q ≡ true)
