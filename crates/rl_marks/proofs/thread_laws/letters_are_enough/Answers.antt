use Rattle.rl_marks.proofs.LikeLaws.{closed_over-sound}
use Rattle.rl_marks.proofs.thread_laws.letters_are_enough.Goals as goal

pub returns : goal.returns
returns c = closed_over-sound
