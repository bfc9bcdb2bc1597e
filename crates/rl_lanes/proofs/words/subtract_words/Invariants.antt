use Rattle.std.proofs.Common.{◌-◌}
use Rattle.rl_lanes.proofs.WordLemmas.{JoinsBelow}
use Rattle.rl_lanes.specs.internal.Words.{and_not}
use Rattle.rl_lanes.proofs.words.subtract_words.Given as goal

abbrev pub invariant-lanes : goal.invariant-lanes
invariant-lanes l = JoinsBelow and_not l.at l.initial.from l.other l.from

abbrev pub decreases-lanes : goal.decreases-lanes
decreases-lanes l = l.len - l.at

abbrev pub invariant-rest : goal.invariant-rest
invariant-rest l = JoinsBelow and_not l.at l.fn.from l.other l.from

abbrev pub decreases-rest : goal.decreases-rest
decreases-rest l = l.len - l.at
