use Rattle.std.proofs.Common.{◌≡◌, false, take}
use Rattle.rl_prio.specs.Automaton.{accepting_state}
use Rattle.rl_sets.specs.Live.{holds}
use Rattle.rl_trim.proofs.branch.state_ends.Given as goal

abbrev pub invariant-loop-target : goal.invariant-loop-target
invariant-loop-target l = holds (take l.target-index l.target-items) (accepting_state l.a) ≡ false
