use Rattle.std.proofs.Common.{◌≤◌, length, map, drop}
use Rattle.rl_ranges.specs.Letters.{letter_at}
use Rattle.rl_machine.specs.Columns.{StandFor}
use Rattle.rl_machine.proofs.texts.counted_on.Given as goal

abbrev pub invariant-loop-left : goal.invariant-loop-left
invariant-loop-left l =
    (l.left ≤ length l.codes) × StandFor l.a l.columns (map (letter_at l.a.table) (drop l.left l.codes))

abbrev pub decreases-loop-left : goal.decreases-loop-left
decreases-loop-left l = l.left
