use Rattle.rl_rewrite.proofs.Settling.{all_settled}
use Rattle.rl_rewrite.proofs.laws.every_branch_is_settled.Goals as goal

pub returns : goal.returns
returns c = λ u limit body codes dropped merged passed text right none. all_settled u body limit (right.tried none)
