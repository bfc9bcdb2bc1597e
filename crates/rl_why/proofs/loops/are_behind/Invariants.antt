use Rattle.std.proofs.Common.{◌≡◌}
use Rattle.std.proofs.Math.ListN.{drop}
use Rattle.rl_why.specs.Loops.{none_below}
use Rattle.rl_why.proofs.loops.are_behind.Given as goal

abbrev pub invariant-loop-place : goal.invariant-loop-place
invariant-loop-place l = none_below l.middle (drop l.place-index l.places) ≡ none_below l.middle l.places
