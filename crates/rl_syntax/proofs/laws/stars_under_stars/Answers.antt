use Rattle.rl_syntax.proofs.Stars.{stars}
use Rattle.rl_syntax.proofs.laws.stars_under_stars.Goals as goal

pub returns : goal.returns
returns c = stars
