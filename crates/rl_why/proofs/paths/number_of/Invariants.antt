use Rattle.std.proofs.Common.{◌≡◌, ◌+◌, ◌-◌, ◌≤◌, map}
use Rattle.std.proofs.Math.ListN.{drop}
use Rattle.rl_why.specs.internal.Numbers.{state_in, kept_place}
use Rattle.rl_why.proofs.paths.number_of.Given as goal

abbrev pub invariant-loop-target : goal.invariant-loop-target
invariant-loop-target l =
    record {
      place : l.place ≡ l.target-index;
      below : l.next ≤ l.number;
      rest : l.place + kept_place (drop l.next (map (state_in l.g) l.kept)) (drop l.target-index l.targets) (l.number - l.next)
          ≡ kept_place (map (state_in l.g) l.kept) l.targets l.number;
    }
