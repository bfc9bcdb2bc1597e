use Rattle.rl_graph.specs.Graph.{edges_of}
use Rattle.rl_graph.proofs.GraphLaws.{bounded-whole}
use Rattle.rl_graph.proofs.ProductLaws.{bounded-pairs}
use Rattle.rl_graph.proofs.moves.TwiceNextStates.states.Goals as goal

pub returns-clause-bounded : goal.returns-clause-bounded
returns-clause-bounded c =
    let g = c.args.self.now.graph.now in
    bounded-pairs (edges_of g) g.states g.letters (bounded-whole g c.states.ensures.whole)
