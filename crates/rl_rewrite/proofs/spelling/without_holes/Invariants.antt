-- The codes that are kept so far, and those of the rest.
use Rattle.std.proofs.Common.{◌≡◌, not, drop, ◌++◌}
use Rattle.rl_pattern.specs.Thinned.{kept_from}
use Rattle.rl_rewrite.specs.internal.Holes.{in_holes}
use Rattle.rl_rewrite.proofs.spelling.without_holes.Given as goal

abbrev pub invariant-loop-place : goal.invariant-loop-place
invariant-loop-place l = l.kept ++ kept_from (λ t. not (in_holes l.holes t)) l.place (drop l.place l.codes) ≡ kept_from (λ t. not (in_holes l.holes t)) 0 l.codes
