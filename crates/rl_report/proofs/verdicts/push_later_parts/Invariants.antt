-- The parts so far and the parts that are left make up what is appended to what was there.
use Rattle.std.proofs.Common.{◌≡◌, ◌+◌, ◌++◌, drop}
use Rattle.rl_report.specs.Verdicts.{later_parts}
use Rattle.rl_report.proofs.verdicts.push_later_parts.Given as goal

abbrev pub invariant-loop-index : goal.invariant-loop-index
invariant-loop-index l =
    l.out.items ++ later_parts l.universe (l.index + 1) (drop l.index l.pumps) (drop l.index l.heads)
    ≡ l.initial.out.items ++ later_parts l.universe 1 l.pumps l.heads
