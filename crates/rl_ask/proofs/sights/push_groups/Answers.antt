use Rattle.rl_ask.proofs.SightLemmas.{groups_more, groups_end}
use Rattle.rl_ask.proofs.sights.push_groups.Goals as goal

pub loop-index-preserved : goal.loop-index-preserved
loop-index-preserved c =
    groups_more _ _ _ c.args.values.now c.loop-index.index _ c.loop-index-test.true c.in_ok-push_group.ensures c.loop-index.invariant

pub returns : goal.returns
returns c = groups_end _ _ c.args.values.now c.loop-index.index c.loop-index-test.false c.loop-index.invariant
