use Rattle.rl_machine.proofs.ColumnLaws.{shows_cost}
use Rattle.rl_machine.proofs.texts.cost.Goals as goal

pub returns-clause-of_tree : goal.returns-clause-of_tree
returns-clause-of_tree c t ending stands = shows_cost _ _ t ending _ stands c.requires c.in_ok-counted.ensures
