use Rattle.rl_pattern.proofs.LeafLaws.{none_held, none_inside}
use Rattle.rl_pattern.proofs.leaf_set.no_codes.Goals as goal

pub returns-clause-members : goal.returns-clause-members
returns-clause-members c = λ x. none_held c.none.result x c.none.ensures

pub returns-clause-inside : goal.returns-clause-inside
returns-clause-inside c = λ u. none_inside u c.none.result c.none.ensures
