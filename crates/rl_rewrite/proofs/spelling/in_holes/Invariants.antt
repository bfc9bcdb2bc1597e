-- Whether it lies in a hole so far, or in one of those that are left.
use Rattle.std.proofs.Common.{◌≡◌, drop, ◌||◌}
use Rattle.rl_rewrite.specs.internal.Holes.{in_holes}
use Rattle.rl_rewrite.proofs.spelling.in_holes.Given as goal

abbrev pub invariant-loop-hole : goal.invariant-loop-hole
invariant-loop-hole l = (l.found || in_holes (drop l.hole-index l.holes) l.place) ≡ in_holes l.holes l.place
