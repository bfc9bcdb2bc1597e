use Rattle.std.proofs.Common.{◌-◌}
use Rattle.std.specs.Prelude.{vec_capacity}
use Rattle.rl_ranges.proofs.SplitLemmas.{InStretch, InStretches}
use Rattle.rl_ranges.proofs.stretches.split.Given as goal

abbrev pub invariant-loop-place : goal.invariant-loop-place
invariant-loop-place l =
    InStretches l.known.stretches.items l.held l.count l.values l.place l.range l.numbers.items l.stretches.items l.least.items (vec_capacity l.stretches)

abbrev pub invariant-loop-at : goal.invariant-loop-at
invariant-loop-at l =
    InStretch l.known.stretches.items l.held l.count l.values l.place l.start l.end l.value l.range l.at l.outside l.inside l.numbers.items l.stretches.items l.least.items (vec_capacity l.stretches)

abbrev pub decreases-loop-at : goal.decreases-loop-at
decreases-loop-at l = l.end - l.at
