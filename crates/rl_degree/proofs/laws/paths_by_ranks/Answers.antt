use Rattle.rl_degree.proofs.RankPaths.{by_ranks, by_degree}
use Rattle.rl_degree.proofs.laws.paths_by_ranks.Goals as goal

pub returns-clause-numbers : goal.returns-clause-numbers
returns-clause-numbers c = by_ranks

pub returns-clause-ranks : goal.returns-clause-ranks
returns-clause-ranks c = by_degree
