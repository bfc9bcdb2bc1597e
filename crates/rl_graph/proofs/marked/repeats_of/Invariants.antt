use Rattle.std.proofs.Common.{◌+◌, ◌*◌, length}
use Rattle.rl_graph.specs.Graph.{edges_of}
use Rattle.rl_graph.specs.internal.Marked.{AreRepeatsUpTo}
use Rattle.rl_graph.proofs.marked.repeats_of.Given as goal

abbrev pub invariant-loop-state : goal.invariant-loop-state
invariant-loop-state l = AreRepeatsUpTo (edges_of l.g) (l.state * length l.letters) l.letters l.repeats.items

abbrev pub invariant-loop-place : goal.invariant-loop-place
invariant-loop-place l = AreRepeatsUpTo (edges_of l.g) (l.state * length l.letters + l.place) l.letters l.repeats.items
