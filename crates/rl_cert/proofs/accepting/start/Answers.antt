use Rattle.std.proofs.Common.{◌-◌, arith}
use Rattle.rl_cert.proofs.AcceptLaws.{accepting-start}
use Rattle.rl_cert.proofs.accepting.start.Goals as goal

pub returns : goal.returns
returns c =
    accepting-start c.args.a.now c.loop-state.state (c.states-accepting.result - 2) c.loop-state.column.items c.states-accepting.ensures.automaton (omega (arith, c.states-accepting.ensures.count))
    (omega (arith, c.states-state-end.ensures.count, c.loop-state-test.false)) (omega (arith, c.states-state-end.ensures.count, c.loop-state.auto.state-end)) c.loop-state.invariant.size c.loop-state.invariant.each
