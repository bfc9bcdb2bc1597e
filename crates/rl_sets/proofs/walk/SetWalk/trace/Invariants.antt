use Rattle.rl_sets.specs.internal.Search.{found_of}
use Rattle.rl_sets.proofs.ExpandLemmas.{IsTracing}
use Rattle.rl_sets.proofs.walk.SetWalk.trace.Given as goal

abbrev pub invariant-loop-at : goal.invariant-loop-at
invariant-loop-at l = IsTracing l.a l.initial.self l.self (found_of l.search) l.at l.route

abbrev pub decreases-loop-at : goal.decreases-loop-at
decreases-loop-at l = l.at
