use Rattle.rl_marks.proofs.WalkLaws.{walk-finds}
use Rattle.rl_marks.proofs.thread_laws.walks_are_finds.Goals as goal

pub returns : goal.returns
returns c = walk-finds
