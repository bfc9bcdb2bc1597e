use Rattle.std.proofs.Common.{◌≡◌}
use Rattle.std.proofs.Math.ListN.{drop}
use Rattle.rl_growth.specs.Routes.{state_after}
use Rattle.rl_why.proofs.reading.chain_reading.Given as goal

abbrev pub invariant-loop-split : goal.invariant-loop-split
invariant-loop-split l = state_after (drop l.split-index l.splits) l.state ≡ state_after l.splits l.alone
