use Rattle.rl_graph.specs.internal.Nodes.{steps_of}
use Rattle.rl_graph.proofs.WalkLaws.{IsWayBack}
use Rattle.rl_graph.proofs.walks.Walk.path_to.Given as goal

abbrev pub invariant-loop-at : goal.invariant-loop-at
invariant-loop-at l = IsWayBack (steps_of l.self) l.at l.place l.numbers.items l.letters.items

abbrev pub decreases-loop-at : goal.decreases-loop-at
decreases-loop-at l = l.at
