use Rattle.std.proofs.Common.{◌-◌, arith}
use Rattle.rl_pairs.specs.PairTable.{moves_in}
use Rattle.rl_growth.proofs.RouteLaws.{reached-read, no_path-reached}
use Rattle.rl_growth.proofs.words.lead_to.Goals as goal

pub unreachable-requires : goal.unreachable-requires
unreachable-requires c =
    let g = c.args.g.now in
    let splits = c.args.splits.now in
    no_path-reached g.graph c.graph.result.now _ _ c.in_ok-word.field-0 c.graph.ensures c.in-None.is c.in_ok-word.ensures.none
    (reached-read (moves_in g) g.graph.states splits c.args.place (c.args.place - 1) c.index-splits-place.result c.index-splits-place-2.result c.requires.route c.requires.place_in (omega arith))
