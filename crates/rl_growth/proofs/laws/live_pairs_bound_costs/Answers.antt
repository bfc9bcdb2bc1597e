use Rattle.rl_growth.proofs.BoundLaws.{numbers_bound, ranks_bound, cost_without_cycle}
use Rattle.rl_growth.proofs.laws.live_pairs_bound_costs.Goals as goal

pub returns-clause-numbers : goal.returns-clause-numbers
returns-clause-numbers c = numbers_bound

pub returns-clause-ranks : goal.returns-clause-ranks
returns-clause-ranks c = ranks_bound

pub returns-clause-flat : goal.returns-clause-flat
returns-clause-flat c = cost_without_cycle
