use Rattle.rl_pairs.proofs.VerdictLaws.{bounded_degree, bounded_flat}
use Rattle.rl_pairs.proofs.laws.paths_bound_costs.Goals as goal

pub returns-clause-degree : goal.returns-clause-degree
returns-clause-degree c = bounded_degree

pub returns-clause-flat : goal.returns-clause-flat
returns-clause-flat c = bounded_flat
