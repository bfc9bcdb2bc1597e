use Rattle.rl_why.proofs.ShownLaws.{alike-long}
use Rattle.rl_why.proofs.shown.are_alike.Goals as goal

pub returns-then-first-second : goal.returns-then-first-second
returns-then-first-second c = alike-long c.args.first.now c.args.second.now c.if-first-second.true
