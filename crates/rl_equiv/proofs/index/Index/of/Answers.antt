use Rattle.std.proofs.Common.{arith}
use Rattle.rl_equiv.proofs.IndexLaws.{none-first, more-first, all-first}
use Rattle.rl_equiv.proofs.index.Index.of.Goals as goal

pub loop-pair-init : goal.loop-pair-init
loop-pair-init c = none-first c.args.relation.now c.new-index.result c.new-index.ensures

pub loop-pair-preserved : goal.loop-pair-preserved
loop-pair-preserved c =
    more-first c.args.relation.now c.loop-pair.pair-index c.loop-pair.index c.add.new.self c.pair-item.result (omega arith) c.pair-item.is c.in-Ok.ensures c.loop-pair.invariant

pub returns : goal.returns
returns c = all-first c.args.relation.now c.loop-pair.pair-index c.loop-pair.index (omega arith) c.loop-pair.invariant
