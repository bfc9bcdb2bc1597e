use Rattle.rl_marks.proofs.ThreadLaws.{distinct-same}
use Rattle.rl_marks.proofs.thread_laws.later_threads_are_dropped.Goals as goal

pub returns : goal.returns
returns c = distinct-same
