use Rattle.rl_degree.proofs.SplitLaws.{split_in_component, apart_and_back}
use Rattle.rl_degree.proofs.laws.one_pair_speaks_for_its_part.Goals as goal

pub returns-clause-split : goal.returns-clause-split
returns-clause-split c = split_in_component

pub returns-clause-kinds : goal.returns-clause-kinds
returns-clause-kinds c = apart_and_back
