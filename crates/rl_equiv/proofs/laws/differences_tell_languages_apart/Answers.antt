use Rattle.rl_equiv.proofs.DifferLaws.{differences-tell}
use Rattle.rl_equiv.proofs.laws.differences_tell_languages_apart.Goals as goal

pub returns : goal.returns
returns c = differences-tell
