use Rattle.rl_explained.proofs.SplitLists.{splits_more, splits_end}
use Rattle.rl_explained.proofs.readings.splits_value.Goals as goal

pub loop-index-preserved : goal.loop-index-preserved
loop-index-preserved c =
    splits_more c.args.universe c.args.pumps.now c.loop-index.values.items c.push.new.self.items c.in_ok-value.value c.args.splits.now c.loop-index.index
    c.index-splits-index.result c.loop-index-test.true c.index-splits-index.is c.in_ok-value.ensures c.in_ok-push.ensures.items c.loop-index.invariant

pub returns : goal.returns
returns c =
    splits_end c.args.universe c.args.pumps.now c.loop-index.values c.args.splits.now c.loop-index.index c.loop-index-test.false c.loop-index.invariant
