use Rattle.std.proofs.Common.{ℕ, ◌<◌}
use Rattle.rl_graph.specs.Graph.{edges_of}
use Rattle.rl_expo.specs.internal.Blocks.{HasNoForkIn}
use Rattle.rl_expo.proofs.blocks.fork_in.Given as goal

abbrev pub invariant-loop-number : goal.invariant-loop-number
invariant-loop-number l = (c : ℕ) → c < l.number → HasNoForkIn (edges_of l.g) l.components c
