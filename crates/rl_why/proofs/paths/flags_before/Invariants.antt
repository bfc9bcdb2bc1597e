use Rattle.std.specs.List.{list_any}
use Rattle.rl_graph.specs.Graph.{edges_of}
use Rattle.rl_why.specs.internal.Paths.{flag, AreFlags}
use Rattle.rl_why.proofs.paths.flags_before.Given as goal

abbrev pub invariant-loop-state : goal.invariant-loop-state
invariant-loop-state l = AreFlags l.state (λ q. list_any (flag l.flags) (edges_of l.g q l.letter)) l.before
