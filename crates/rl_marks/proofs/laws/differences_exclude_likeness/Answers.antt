use Rattle.rl_marks.proofs.DifferLaws.{differ-unlike}
use Rattle.rl_marks.proofs.laws.differences_exclude_likeness.Goals as goal

pub returns : goal.returns
returns c = differ-unlike
