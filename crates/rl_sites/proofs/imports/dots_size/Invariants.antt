-- What is skipped and what is left are the whole.
use Rattle.std.proofs.Common.{◌≡◌, ◌+◌, length}
use Rattle.rl_sites.specs.Imports.{dots_size}
use Rattle.rl_sites.proofs.imports.dots_size.Given as goal

abbrev pub invariant-loop-left : goal.invariant-loop-left
invariant-loop-left l = dots_size l.source l.rest + length l.left ≡ length l.rest + dots_size l.source l.left

abbrev pub decreases-loop-left : goal.decreases-loop-left
decreases-loop-left l = length l.left
