use Rattle.std.proofs.Common.{arith}
use Rattle.rl_pairs.specs.PairTable.{moves_in}
use Rattle.rl_growth.proofs.RouteLaws.{way-pushed}
use Rattle.rl_growth.proofs.words.split_words.Goals as goal

pub loop-place-preserved : goal.loop-place-preserved
loop-place-preserved c =
    let g = c.args.g.now in
    way-pushed (moves_in g) g.graph.states c.args.splits.now c.loop-place.place _ _ _ _ c.in_ok-lead.lead c.in_ok-round.round c.index-splits-place.result c.requires.route (omega arith) c.loop-place.invariant c.in_ok-lead.ensures c.in_ok-push.ensures.heads c.in_ok-push.ensures.pumps c.in_ok-round.ensures
