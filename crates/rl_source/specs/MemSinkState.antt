-- The state of a sink in memory, and the exact effect of its writes. A sink is something to which bytes can be written. A
-- write offers it a piece, which is a list of bytes, and the sink takes some bytes from its front, or it fails. A write of an
-- empty piece changes nothing and isn't counted.
use Rattle.std.specs.Prelude.{ℕ, ◌-◌, Bool, ◌||◌, List, ◌++◌, length, take, min, ◌==◌, nat_le}
use Rattle.std.specs.List.{list_any}
use Rattle.rl_source.specs.Faults.{next_count}

-- The state of a sink in memory.
pub record MemSinkState : Type 0 where
  -- The bytes written so far
  pub bytes : List ℕ
  -- The maximum number of bytes that a write takes
  pub step : ℕ
  -- The maximum number of bytes in total
  pub room : ℕ
  -- The numbers, from 1, of the writes that were chosen to fail
  pub failing : List ℕ
  -- The number of writes of nonempty pieces, at most 2^64 - 1
  pub calls : ℕ
  -- The number of writes that failed, at most 2^64 - 1
  pub faults : ℕ

-- Whether the next write of a nonempty piece fails, because it was chosen to fail or no room is left.
abbrev pub write_fails : MemSinkState → Bool
write_fails s = list_any (λ n. n == next_count s.calls) s.failing || nat_le s.room (length s.bytes)

-- The number of bytes that the next write takes from the front of the piece if it doesn't fail: as many as the piece, the step
-- and the room that is left allow.
abbrev pub taken_of : MemSinkState → List ℕ → ℕ
taken_of s piece = min (min s.step (length piece)) (s.room - length s.bytes)

-- The state after a write of a nonempty piece that failed: it is counted as a write and as a fault.
abbrev pub after_fault : MemSinkState → MemSinkState
after_fault s = record s { calls = next_count s.calls; faults = next_count s.faults }

-- The state after a write that took the first `taken_of` bytes of a nonempty piece: they are appended, and the write is
-- counted.
abbrev pub after_taking : MemSinkState → List ℕ → MemSinkState
after_taking s piece = record s { bytes = s.bytes ++ take (taken_of s piece) piece; calls = next_count s.calls }
