use Rattle.rl_equiv.proofs.ClosedLaws.{second-proper}
use Rattle.rl_equiv.proofs.CheckLaws.{sets-kept}
use Rattle.rl_equiv.proofs.checking.keeps_beside.Goals as goal

pub walk_from-requires : goal.walk_from-requires
walk_from-requires c = second-proper c.args.a.now c.args.b.now c.args.pair.now c.requires.proper

pub returns : goal.returns
returns c =
    sets-kept c.args.a.now c.args.b.now c.args.index.now c.args.pair.now c.requires.proper c.args.first.now c.in_ok-second.second
    c.requires.set c.in_ok-second.ensures.set c.keeps_sets-kept.result c.keeps_sets-kept.ensures
