use Rattle.rl_sarif.proofs.OwnBaseline.{one-list}
use Rattle.rl_sarif.proofs.laws.baselines_hold_one_list.Goals as goal

pub returns : goal.returns
returns c bytes keys others a b = one-list bytes keys others a b
