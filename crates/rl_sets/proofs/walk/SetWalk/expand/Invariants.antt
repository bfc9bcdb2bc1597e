use Rattle.rl_sets.specs.internal.Search.{found_of}
use Rattle.rl_sets.proofs.ExpandLemmas.{IsExpanding}
use Rattle.rl_sets.proofs.walk.SetWalk.expand.Given as goal

abbrev pub invariant-loop-letter : goal.invariant-loop-letter
invariant-loop-letter l = IsExpanding l.a l.fn.self l.self (found_of l.fn.search) (found_of l.search) l.place l.letter
