use Rattle.rl_degree.proofs.WithoutSplit.{without_split, without_cycle}
use Rattle.rl_degree.proofs.laws.paths_without_a_split.Goals as goal

pub returns-clause-no_split : goal.returns-clause-no_split
returns-clause-no_split c = without_split

pub returns-clause-no_cycle : goal.returns-clause-no_cycle
returns-clause-no_cycle c = without_cycle
