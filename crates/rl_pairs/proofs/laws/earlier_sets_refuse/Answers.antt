use Rattle.rl_pairs.proofs.CostLaws.{sets_stay}
use Rattle.rl_pairs.proofs.laws.earlier_sets_refuse.Goals as goal

pub returns : goal.returns
returns c = sets_stay
