use Rattle.std.proofs.Common.{arith}
use Rattle.rl_graph.specs.Graph.{Graph}
use Rattle.rl_graph.proofs.GraphLaws.{whole-rows}
use Rattle.rl_graph.proofs.graph.Multigraph.from_rows.Goals as goal

pub invariant_of-result : goal.invariant_of-result
invariant_of-result c =
    let g : Graph = record { states = c.args.states; letters = c.args.letters; rows = c.args.rows } in
    whole-rows g (omega arith) (omega arith) c.requires.size c.requires.targets c.len-count.ensures.short
