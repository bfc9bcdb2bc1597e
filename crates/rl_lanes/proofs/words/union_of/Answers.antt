use Rattle.std.proofs.Common.{refl}
use Rattle.rl_lanes.proofs.UnionLemmas.{IsUnionBut-more}
use Rattle.rl_lanes.proofs.words.union_of.Goals as goal

pub loop-left-preserved : goal.loop-left-preserved
loop-left-preserved c =
    IsUnionBut-more c.args.words.now c.args.chosen c.loop-left.left c.loop-left.union c.lowest.result c.without_lowest-left.result _ c.loop-left.invariant
    c.lowest.ensures.bound c.lowest.ensures.set c.lowest.ensures.below c.without_lowest-left.ensures.inside c.without_lowest-left.ensures.kept refl
