use Rattle.rl_ways.proofs.CycleLaws.{cycles-lead, paths-begin}
use Rattle.rl_ways.proofs.laws.cycles_are_ways.Goals as goal

pub returns-clause-lead : goal.returns-clause-lead
returns-clause-lead c = cycles-lead

pub returns-clause-begin : goal.returns-clause-begin
returns-clause-begin c = paths-begin
