use Rattle.rl_equiv.proofs.IndexLaws.{first-there}
use Rattle.rl_equiv.proofs.checking.has_start.Goals as goal

pub returns : goal.returns
returns c = first-there c.args.index.now c.in_ok-first.first c.in_ok-second.second c.has.result c.in_ok-first.ensures c.in_ok-second.ensures c.has.ensures
