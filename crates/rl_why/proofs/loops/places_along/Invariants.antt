use Rattle.std.proofs.Common.{◌≡◌, ◌++◌}
use Rattle.std.proofs.Math.ListN.{drop}
use Rattle.rl_why.specs.Loops.{taking}
use Rattle.rl_why.proofs.loops.places_along.Given as goal

abbrev pub invariant-loop-item : goal.invariant-loop-item
invariant-loop-item l = l.places ++ taking (drop l.item-index l.way) ≡ taking l.way
