use Rattle.rl_sarif.proofs.OwnBaseline.{own-baseline}
use Rattle.rl_sarif.proofs.laws.reports_are_baselines.Goals as goal

pub returns : goal.returns
returns c max_degree max_pairs report entries small version few sound short = own-baseline max_degree max_pairs report entries small version few sound short
