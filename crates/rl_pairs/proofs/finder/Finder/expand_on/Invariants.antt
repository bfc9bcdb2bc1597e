use Rattle.rl_sets.specs.Live.{image}
use Rattle.rl_pairs.specs.internal.Finding.{found_of, pair_at, IsTrying}
use Rattle.rl_pairs.proofs.finder.Finder.expand_on.Given as goal

abbrev pub invariant-loop-k : goal.invariant-loop-k
invariant-loop-k l =
    IsTrying l.a l.fn.walk l.walk (found_of l.fn.self) (found_of l.self) (image l.a (pair_at l.fn.walk (found_of l.fn.self) l.from).set l.letter) l.targets l.row.items l.k l.set
