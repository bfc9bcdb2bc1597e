-- The bytes so far belong to the line.
use Rattle.std.proofs.Common.{◌≡◌, ◌+◌, ◌-◌, ◌≤◌, length, drop}
use Rattle.std.specs.List.{prefix_len}
use Rattle.rl_pylex.specs.Bytes.{in_line}
use Rattle.rl_pylex.proofs.bytes.line_size.Given as goal

abbrev pub invariant-loop-at : goal.invariant-loop-at
invariant-loop-at l =
    (l.at ≤ length l.text) × (prefix_len in_line l.text ≡ l.at + prefix_len in_line (drop l.at l.text))

abbrev pub decreases-loop-at : goal.decreases-loop-at
decreases-loop-at l = length l.text - l.at
