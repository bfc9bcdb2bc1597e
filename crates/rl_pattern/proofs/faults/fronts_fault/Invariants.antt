-- The first fault so far, and that of the remaining groups under the flags so far.
use Rattle.std.proofs.Common.{◌≡◌, drop}
use Rattle.rl_pattern.specs.Found.{earlier, first_fault, front_faults}
use Rattle.rl_pattern.proofs.faults.fronts_fault.Given as goal

abbrev pub invariant-loop-front : goal.invariant-loop-front
invariant-loop-front l = earlier l.best (first_fault (front_faults l.text l.flags (drop l.front-index l.fronts))) ≡ first_fault (front_faults l.fn.text l.fn.call l.fronts)
