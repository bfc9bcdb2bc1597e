use Rattle.rl_marks.proofs.PairLaws.{closed-sound}
use Rattle.rl_marks.proofs.thread_laws.closed_relations_are_sound.Goals as goal

pub returns : goal.returns
returns c = closed-sound
