use Rattle.std.proofs.Common.{arith}
use Rattle.rl_degree.proofs.ChainLaws.{one-component}
use Rattle.rl_degree.proofs.chains.greatest.Goals as goal

pub without_split-requires-clause-no_split : goal.without_split-requires-clause-no_split
without_split-requires-clause-no_split c =
    one-component c.args.g.now c.args.components c.states.ensures.whole c.requires.parts c.requires.no_twin
    (λ r q hr hq cr cq. c.has_two.ensures c.if-has_two.false r q (omega (arith, hr, c.states.ensures.number)) (omega (arith, hq, c.states.ensures.number)) cr cq)
