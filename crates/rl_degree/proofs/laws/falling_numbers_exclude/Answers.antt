use Rattle.rl_degree.proofs.FallingLaws.{doubles_exclude, triples_exclude}
use Rattle.rl_degree.proofs.laws.falling_numbers_exclude.Goals as goal

pub returns-clause-twins : goal.returns-clause-twins
returns-clause-twins c = doubles_exclude

pub returns-clause-splits : goal.returns-clause-splits
returns-clause-splits c = triples_exclude
