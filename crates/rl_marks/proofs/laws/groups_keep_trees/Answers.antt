use Rattle.rl_marks.proofs.LoweringLaws.{plain-marked}
use Rattle.rl_marks.proofs.laws.groups_keep_trees.Goals as goal

pub returns : goal.returns
returns c = plain-marked
