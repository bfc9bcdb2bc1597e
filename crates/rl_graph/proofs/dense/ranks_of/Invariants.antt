use Rattle.std.proofs.Common.{◌≡◌}
use Rattle.rl_graph.specs.internal.Dense.{rank_in, AreRanks}
use Rattle.rl_graph.proofs.dense.ranks_of.Given as goal

abbrev pub invariant-loop-mark : goal.invariant-loop-mark
invariant-loop-mark l = AreRanks l.marks l.mark-index l.ranks.items × (l.rank ≡ rank_in l.marks l.mark-index)
