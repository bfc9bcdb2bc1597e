use Rattle.std.proofs.Common.{◌≡◌, take, map}
use Rattle.rl_pairs.specs.internal.Finding.{pair_of}
use Rattle.rl_pairs.proofs.pair_graph.listed.Given as goal

abbrev pub invariant-loop-k : goal.invariant-loop-k
invariant-loop-k l = l.pairs.items ≡ map (pair_of l.walk) (take l.k l.keys.keys)
