use Rattle.rl_equiv.proofs.ClosedLaws.{closed-same}
use Rattle.rl_equiv.proofs.Together.{together}
use Rattle.rl_equiv.proofs.laws.closed_relations_keep_languages.Goals as goal

pub returns : goal.returns
returns c = λ u s t relation closed. let both = together u s t in closed-same u s t both.0 both.1 relation both.2 closed
