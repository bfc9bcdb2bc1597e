use Rattle.std.proofs.Common.{◌≡◌}
use Rattle.std.proofs.Math.ListN.{drop}
use Rattle.rl_why.specs.Loops.{all_below}
use Rattle.rl_why.proofs.loops.are_below.Given as goal

abbrev pub invariant-loop-place : goal.invariant-loop-place
invariant-loop-place l = all_below l.middle (drop l.place-index l.places) ≡ all_below l.middle l.places
