-- Lemmas about runs of rows.
use Rattle.std.proofs.Common.{◌≡◌, ℕ, ◌+◌, ◌<◌, ◌≤◌, Bool, List, length, get_or, arith}
use Rattle.rl_lanes.specs.Runs.{IsRun}

-- The empty run is a run of every row.
pub IsRun-alone : (table : List (List Bool)) (row : ℕ) → row < length table → IsRun table row (row + 1)
IsRun-alone table row lt = record { after = omega arith; inside = omega arith; covered = λ i past before. absurd (omega arith) }

-- The ends of the runs of all rows from `from` on.
pub record AreRunsFrom (table : List (List Bool)) (from : ℕ) (ends : List ℕ) : Type 0 where
  pub within : from ≤ length table
  pub long : length ends ≡ length table
  pub runs : (i : ℕ) → from ≤ i → i < length table → IsRun table i (get_or ends i 0)
