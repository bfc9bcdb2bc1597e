-- The state of a sink over a writer.
use Rattle.std.specs.Prelude.{ℕ, Result, Ok, Err, ◌≡◌}
use Rattle.rl_source.specs.Faults.{next_count}

-- The state of a sink over a writer: the writer, and the fault count.
pub record SinkOver (W : Type 0) : Type 0 where
  pub writer : W
  -- The number of writes that failed, at most 2^64 - 1
  pub faults : ℕ

-- Holds if the fault count changes from `before` to `now` as it has to: if the result is an error, it increases by one, unless
-- it is saturated (2^64 - 1); otherwise it stays the same.
abbrev pub CountsErrors : {T E : Type 0} → ℕ → ℕ → Result T E → Type 0
CountsErrors before now (Ok answer) = now ≡ before
CountsErrors before now (Err error) = now ≡ next_count before
