use Rattle.rl_syntax.proofs.Places.{same_places, wrapped_places}
use Rattle.rl_syntax.proofs.laws.languages_tell_places.Goals as goal

pub returns-clause-places : goal.returns-clause-places
returns-clause-places c = same_places

pub returns-clause-modes : goal.returns-clause-modes
returns-clause-modes c = wrapped_places
