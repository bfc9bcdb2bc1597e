use Rattle.std.proofs.Common.{length, ◌<◌}
use Rattle.rl_ranges.specs.internal.Splitting.{AreLater}
use Rattle.rl_ranges.proofs.stretches.stretch_before.Given as goal

abbrev pub invariant-loop-last : goal.invariant-loop-last
invariant-loop-last l = record {
  inside : l.last < length l.stretches;
  later : AreLater l.stretches l.last l.code;
}

abbrev pub decreases-loop-last : goal.decreases-loop-last
decreases-loop-last l = l.last
