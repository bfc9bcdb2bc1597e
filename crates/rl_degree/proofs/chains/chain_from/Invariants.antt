use Rattle.std.proofs.Common.{◌≡◌, ◌+◌, ◌<◌, List, ◌++◌, length, All}
use Rattle.rl_graph.specs.Graph.{edges_of}
use Rattle.rl_graph.specs.Parts.{number_of}
use Rattle.rl_graph.specs.Twins.{Link, ChainFrom}
use Rattle.rl_degree.specs.internal.Ranks.{best_at}
use Rattle.rl_degree.specs.Chains.{links_of, IsSplitIn}
use Rattle.rl_degree.proofs.chains.chain_from.Given as goal

abbrev pub invariant-loop-best : goal.invariant-loop-best
invariant-loop-best l = record {
  state_in : l.state < l.g.states;
  best : l.best ≡ best_at l.bests (number_of l.table.components l.state);
  chain : (ms : List Link) → ChainFrom (edges_of l.g) l.state ms → ChainFrom (edges_of l.g) l.fn.start (links_of l.links ++ ms);
  long : length l.links + l.best.rank ≡ (best_at l.bests (number_of l.table.components l.fn.start)).rank;
  states : All (IsSplitIn l.g.states) l.links;
}

abbrev pub decreases-loop-best : goal.decreases-loop-best
decreases-loop-best l = l.best.rank
