use Rattle.std.proofs.Common.{◌≡◌}
use Rattle.std.proofs.Math.ListN.{drop}
use Rattle.std.specs.List.{list_any}
use Rattle.rl_why.specs.internal.Paths.{flag}
use Rattle.rl_why.proofs.paths.has_flag.Given as goal

abbrev pub invariant-loop-target : goal.invariant-loop-target
invariant-loop-target l = list_any (flag l.flags) (drop l.target-index l.targets) ≡ list_any (flag l.flags) l.targets
