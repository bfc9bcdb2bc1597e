use Rattle.rl_equiv.proofs.ImageLaws.{image-rises}
use Rattle.rl_equiv.proofs.RiseLaws.{rises-one}
use Rattle.rl_equiv.proofs.laws.sets_are_rising_lists.Goals as goal

pub returns-clause-one : goal.returns-clause-one
returns-clause-one c = rises-one

pub returns-clause-images : goal.returns-clause-images
returns-clause-images c = image-rises
