use Rattle.std.proofs.Common.{sym}
use Rattle.rl_equiv.proofs.ClosedLaws.{first-proper}
use Rattle.rl_equiv.proofs.checking.keeps.Goals as goal

pub walk_from-requires : goal.walk_from-requires
walk_from-requires c = first-proper c.args.a.now c.args.b.now c.args.pair.now (sym c.if-not-is_proper.ensures)

pub keeps_beside-kept-requires-clause-proper : goal.keeps_beside-kept-requires-clause-proper
keeps_beside-kept-requires-clause-proper c = sym c.if-not-is_proper.ensures
