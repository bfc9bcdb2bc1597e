use Rattle.std.proofs.Common.{arith}
use Rattle.rl_degree.proofs.ChainLaws.{no-cycle}
use Rattle.rl_degree.proofs.chains.some_loop.Goals as goal

pub returns-clause-none : goal.returns-clause-none
returns-clause-none c =
    no-cycle c.args.g.now c.args.components.now c.requires.parts (λ q hq. c.loop-state.invariant q (omega (arith, c.loop-state-test.false, c.states-state-end.ensures.number)))
