use Rattle.std.proofs.Common.{◌≡◌, ◌+◌}
use Rattle.std.proofs.Math.ListN.{drop}
use Rattle.rl_ranges.specs.Letters.{place_where}
use Rattle.rl_why.specs.internal.Paths.{flag}
use Rattle.rl_why.proofs.paths.first_flag.Given as goal

abbrev pub invariant-loop-target : goal.invariant-loop-target
invariant-loop-target l =
    record {
      place : l.place ≡ l.target-index;
      rest : l.place + place_where (flag l.flags) (drop l.target-index l.targets) ≡ place_where (flag l.flags) l.targets;
    }
