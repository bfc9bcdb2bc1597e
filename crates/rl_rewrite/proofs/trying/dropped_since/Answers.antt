use Rattle.rl_rewrite.proofs.BegunTrials.{first_taken}
use Rattle.rl_rewrite.proofs.trying.dropped_since.Goals as goal

pub returns : goal.returns
returns c = first_taken c.args.begun.now c.args.dropped.now c.requires
