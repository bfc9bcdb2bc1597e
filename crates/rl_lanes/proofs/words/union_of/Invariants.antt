use Rattle.rl_lanes.proofs.UnionLemmas.{IsUnionBut}
use Rattle.rl_lanes.proofs.words.union_of.Given as goal

abbrev pub invariant-loop-left : goal.invariant-loop-left
invariant-loop-left l = IsUnionBut l.words l.fn.chosen l.left l.union

abbrev pub decreases-loop-left : goal.decreases-loop-left
decreases-loop-left l = l.left
