use Rattle.std.proofs.Common.{◌*◌, ◌-◌, ◌≤◌, length}
use Rattle.rl_pairs.specs.internal.Finding.{found_of, width, IsFurther}
use Rattle.rl_pairs.proofs.finder.Finder.find.Given as goal

abbrev pub invariant-loop-place : goal.invariant-loop-place
invariant-loop-place l = record {
  further : IsFurther l.a l.fn.walk l.walk (found_of l.fn.self) (found_of l.self) (l.place * width l.a);
  within : l.place ≤ length (found_of l.self).keys;
}

abbrev pub decreases-loop-place : goal.decreases-loop-place
decreases-loop-place l = (found_of l.self).limit - l.place
