use Rattle.rl_marks.proofs.AlikeLaws.{closed_over-alike}
use Rattle.rl_marks.proofs.thread_laws.patterns_find_alike.Goals as goal

pub returns : goal.returns
returns c = closed_over-alike
