use Rattle.std.proofs.Common.{◌≡◌}
use Rattle.std.proofs.Math.ListN.{drop}
use Rattle.rl_why.specs.Shown.{are_alike}
use Rattle.rl_why.proofs.shown.are_alike.Given as goal

abbrev pub invariant-loop-k : goal.invariant-loop-k
invariant-loop-k l = are_alike (drop l.k l.first) (drop l.k l.second) ≡ are_alike l.first l.second
