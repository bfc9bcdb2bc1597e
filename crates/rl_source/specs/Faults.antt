-- Fault counts, and what a failure says about them. A fault count is the number of failures so far. At 2^64 - 1 it is
-- saturated: further failures don't change it.
use Rattle.std.specs.Prelude.{ℕ, ◌+◌, ◌-◌, ◌^◌, ◌≤◌, min, Result, OnErr}

-- The count after one more event: one more than `n`, but at most 2^64 - 1.
abbrev pub next_count : ℕ → ℕ
next_count n = min (n + 1) (2 ^ 64 - 1)

-- Holds if the count increased from `before` to `now`, or if it is saturated.
abbrev pub Rose : ℕ → ℕ → Type 0
Rose before now = next_count before ≤ now

-- Holds if the fault count doesn't decrease from `before` to `now`, and the result is an error only if the count increased or
-- is saturated.
pub record HasCause {T E : Type 0} (before now : ℕ) (result : Result T E) : Type 0 where
  pub later : before ≤ now
  pub failed : OnErr result (Rose before now)
