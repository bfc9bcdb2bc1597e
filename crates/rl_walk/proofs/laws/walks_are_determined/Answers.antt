use Rattle.rl_walk.proofs.Determined.{determined}
use Rattle.rl_walk.proofs.laws.walks_are_determined.Goals as goal

pub returns : goal.returns
returns c nodes single steps met calls other_calls visits other_visits w x e = determined nodes single w x e
