use Rattle.std.proofs.Common.{◌<◌, length, ap, arith}
use Rattle.rl_graph.specs.Graph.{edges_of}
use Rattle.rl_expo.proofs.SearchLaws.{row-in}
use Rattle.rl_expo.proofs.dense.meet_on.Goals as goal

pub of-requires : goal.of-requires
of-requires c =
    let g = c.args.g.now in
    let lt : c.loop-place.place < length (edges_of g c.args.state c.args.letter) = omega (arith, ap length c.edges-row.ensures.targets) in
    rw (c.edges-row.ensures.targets, c.requires.parts.size) (row-in g c.args.state c.args.letter c.edges-row.ensures.whole c.loop-place.place 0 lt)

pub meet_after-requires-clause-middle_in : goal.meet_after-requires-clause-middle_in
meet_after-requires-clause-middle_in c =
    let g = c.args.g.now in
    let lt : c.loop-place.place < length (edges_of g c.args.state c.args.letter) = omega (arith, ap length c.edges-row.ensures.targets) in
    rw c.edges-row.ensures.targets (row-in g c.args.state c.args.letter c.edges-row.ensures.whole c.loop-place.place 0 lt)
