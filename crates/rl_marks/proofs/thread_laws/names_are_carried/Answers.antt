use Rattle.rl_marks.proofs.NameLaws.{moved-named}
use Rattle.rl_marks.proofs.thread_laws.names_are_carried.Goals as goal

pub returns : goal.returns
returns c = moved-named
