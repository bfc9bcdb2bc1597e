use Rattle.std.proofs.Common.{◌≡◌, ◌<◌, ◌++◌, true}
use Rattle.std.proofs.Math.ListN.{drop}
use Rattle.rl_graph.specs.Graph.{edges_of}
use Rattle.rl_why.specs.internal.Paths.{is_led, path_to}
use Rattle.rl_why.proofs.paths.path_along.Given as goal

abbrev pub invariant-loop-k : goal.invariant-loop-k
invariant-loop-k l =
    record {
      in_states : l.state < l.g.states;
      leads : is_led (edges_of l.g) l.to (drop l.k l.word) l.state ≡ true;
      rest : l.path ++ path_to (edges_of l.g) l.to (drop l.k l.word) l.state ≡ path_to (edges_of l.g) l.to l.word l.fn.from;
    }
