use Rattle.std.proofs.Common.{◌-◌}
use Rattle.rl_sets.specs.internal.Search.{found_of}
use Rattle.rl_sets.proofs.SearchingLemmas.{IsSearching}
use Rattle.rl_sets.proofs.walk.SetWalk.seek.Given as goal

abbrev pub invariant-loop-place : goal.invariant-loop-place
invariant-loop-place l = IsSearching l.a l.fn.self l.self l.set (found_of l.search) l.place

abbrev pub decreases-loop-place : goal.decreases-loop-place
decreases-loop-place l = l.fn.self.limit - l.place
