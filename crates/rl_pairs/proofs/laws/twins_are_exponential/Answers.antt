use Rattle.rl_pairs.proofs.VerdictLaws.{twin_verdict}
use Rattle.rl_pairs.proofs.laws.twins_are_exponential.Goals as goal

pub returns : goal.returns
returns c = twin_verdict
