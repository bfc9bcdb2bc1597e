use Rattle.rl_graph.specs.Graph.{edges_of}
use Rattle.rl_expo.proofs.ForkLaws.{no_fork-no_twin, no_twin-no_paths}
use Rattle.rl_expo.proofs.twins.twin_over.Goals as goal

pub returns-clause-none : goal.returns-clause-none
returns-clause-none c = no_fork-no_twin (edges_of c.args.g.now) (rw c.in-None.is at c.in_ok-fork.ensures.none)

pub returns-clause-no_paths : goal.returns-clause-no_paths
returns-clause-no_paths c =
    no_twin-no_paths (edges_of c.args.g.now) (no_fork-no_twin (edges_of c.args.g.now) (rw c.in-None.is at c.in_ok-fork.ensures.none))
