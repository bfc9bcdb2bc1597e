use Rattle.std.proofs.Common.{length}
use Rattle.rl_machine.proofs.columns.+all_steps.Given as goal

abbrev pub decreases-all_steps : goal.decreases-all_steps
decreases-all_steps l = length l.targets.now
