use Rattle.rl_why.proofs.EnterLaws.{ways-follow}
use Rattle.rl_why.proofs.laws.ways_follow.Goals as goal

pub returns : goal.returns
returns c = ways-follow
