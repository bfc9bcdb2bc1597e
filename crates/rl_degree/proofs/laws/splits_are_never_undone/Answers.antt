use Rattle.rl_degree.proofs.SplitLaws.{split_falls, chain_short}
use Rattle.rl_degree.proofs.laws.splits_are_never_undone.Goals as goal

pub returns-clause-falls : goal.returns-clause-falls
returns-clause-falls c = λ next r q v none split back. split_falls next r q v back.0 none split back.1

pub returns-clause-short : goal.returns-clause-short
returns-clause-short c = chain_short
