use Rattle.rl_pairs.proofs.VerdictLaws.{chain_verdict, flat_verdict}
use Rattle.rl_pairs.proofs.laws.chains_have_degree.Goals as goal

pub returns-clause-chains : goal.returns-clause-chains
returns-clause-chains c = chain_verdict

pub returns-clause-flat : goal.returns-clause-flat
returns-clause-flat c = flat_verdict
