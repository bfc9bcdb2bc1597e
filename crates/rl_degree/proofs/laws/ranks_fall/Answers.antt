use Rattle.rl_degree.proofs.SplitLaws.{rank_falls, rank_split, rank_still}
use Rattle.rl_degree.proofs.laws.ranks_fall.Goals as goal

pub returns-clause-reached : goal.returns-clause-reached
returns-clause-reached c = rank_falls

pub returns-clause-split : goal.returns-clause-split
returns-clause-split c = rank_split

pub returns-clause-still : goal.returns-clause-still
returns-clause-still c = rank_still
