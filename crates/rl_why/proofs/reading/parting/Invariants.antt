use Rattle.std.proofs.Common.{ℕ, ◌≤◌}
use Rattle.rl_why.specs.Shown.{PartAt}
use Rattle.rl_why.proofs.reading.parting.Given as goal

abbrev pub invariant-loop-k : goal.invariant-loop-k
invariant-loop-k l = (j : ℕ) → PartAt j l.first l.second → l.k ≤ j
