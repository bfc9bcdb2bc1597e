use Rattle.rl_graph.specs.Graph.{edges_of}
use Rattle.rl_graph.proofs.GraphLaws.{bounded-whole}
use Rattle.rl_expo.proofs.SplitLaws.{sides-there}
use Rattle.rl_expo.proofs.twins.split_move.Goals as goal

pub returns : goal.returns
returns c =
    let g = c.args.g.now in
    rw (c.edges-ones.ensures.targets, c.edges-others.ensures.targets) (sides-there (edges_of g) g.states g.letters c.args.one c.args.other c.args.letter c.args.number (bounded-whole g c.states-states.ensures.whole) c.requires.other_in c.requires.number_in)
