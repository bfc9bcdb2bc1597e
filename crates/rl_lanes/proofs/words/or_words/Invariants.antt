use Rattle.std.proofs.Common.{◌-◌, bit_or}
use Rattle.rl_lanes.proofs.WordLemmas.{JoinsBelow}
use Rattle.rl_lanes.proofs.words.or_words.Given as goal

abbrev pub invariant-lanes : goal.invariant-lanes
invariant-lanes l = JoinsBelow bit_or l.at l.initial.into l.other l.into

abbrev pub decreases-lanes : goal.decreases-lanes
decreases-lanes l = l.len - l.at

abbrev pub invariant-rest : goal.invariant-rest
invariant-rest l = JoinsBelow bit_or l.at l.fn.into l.other l.into

abbrev pub decreases-rest : goal.decreases-rest
decreases-rest l = l.len - l.at
