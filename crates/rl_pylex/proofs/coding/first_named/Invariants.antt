-- There is no `coding` with a name before the place.
use Rattle.std.proofs.Common.{◌≡◌, drop}
use Rattle.rl_pylex.specs.Coding.{first_named, from_place}
use Rattle.rl_pylex.proofs.coding.first_named.Given as goal

abbrev pub invariant-loop-at : goal.invariant-loop-at
invariant-loop-at l = first_named l.text ≡ from_place l.at (first_named (drop l.at l.text))
