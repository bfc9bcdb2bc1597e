use Rattle.std.proofs.Common.{◌≡◌, take}
use Rattle.rl_ranges.specs.Codes.{has}
use Rattle.rl_prio.specs.internal.GuardSets.{kinds_refused}
use Rattle.rl_prio.proofs.build.guards.kinds_refused.Given as goal

abbrev pub invariant-loop-kind : goal.invariant-loop-kind
invariant-loop-kind l = l.refused ≡ kinds_refused l.negated (has l.set) (take l.kind l.kinds.samples)
