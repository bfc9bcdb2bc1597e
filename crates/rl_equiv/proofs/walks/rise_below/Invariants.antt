use Rattle.std.proofs.Common.{◌≡◌}
use Rattle.std.proofs.Math.ListN.{drop}
use Rattle.rl_equiv.specs.SetPairs.{rises}
use Rattle.rl_equiv.proofs.walks.rise_below.Given as goal

abbrev pub invariant-loop-state : goal.invariant-loop-state
invariant-loop-state l = rises 0 l.end l.states ≡ rises l.least l.end (drop l.state-index l.states)
