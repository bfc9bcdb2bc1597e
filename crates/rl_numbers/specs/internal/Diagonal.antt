-- For the contracts of private functions: the doubles of a state with itself, and the list of doubles for a list of
-- codes. In a graph with `n` states, the code of the double of `p` and `q` is `p * n + q`.
use Rattle.std.specs.Prelude.{◌≡◌, ℕ, ◌+◌, ◌*◌, ◌/◌, ◌%◌, ◌<◌, List, map}
use Rattle.rl_graph.specs.Paths.{Has}
use Rattle.rl_graph.specs.Parts.{PartTable, number_of}
use Rattle.rl_numbers.specs.declared.double.Double.{Double}

-- Holds if the list has the code of `(r, r)` for each state `r` below `k`, and only such codes with `r` below `n`.
pub record IsDiagonalUpTo (n k : ℕ) (l : List ℕ) : Type 0 where
  pub sound : (s : ℕ) → Has s l → (r : ℕ) × (r < n) × (s ≡ r * n + r)
  pub whole : (r : ℕ) → r < k → Has (r * n + r) l

-- The double with the code `k`, with the number of its part in the product of the graph with itself.
abbrev pub double_of : PartTable → ℕ → ℕ → Double
double_of parts n k = record { p = k / n; q = k % n; number = number_of parts k }

-- The doubles with the codes `keys`, in order, with the numbers of their parts in the product.
abbrev pub doubles_in : PartTable → ℕ → List ℕ → List Double
doubles_in parts n keys = map (double_of parts n) keys
