use Rattle.std.proofs.Common.{sym, subst, arith}
use Rattle.rl_trim.specs.Endings.{state_ends, AreEnding}
use Rattle.rl_trim.proofs.RowLaws.{filled-none, filled-set, filled-unset, ending-all}
use Rattle.rl_trim.proofs.branch.ending_of.Goals as goal
use Rattle.rl_trim.proofs.branch.ending_of.Goals.{then-state_ends, else-state_ends}

pub loop-state-init : goal.loop-state-init
loop-state-init c = filled-none (state_ends c.args.a.now) c.states-states.result c.in_ok-ending.ending c.in_ok-ending.ensures

pub loop-state-preserved : goal.loop-state-preserved
loop-state-preserved c =
    let a = c.args.a.now in
    let states = c.states-states.result in
    let state = c.loop-state.state in
    elim c.if-state_ends.branch [
      | then-state_ends w ↦ rw w.ending-is (filled-set (state_ends a) states state c.loop-state.ending w.set.new.self (sym w.if-state_ends.ensures) w.set.ensures c.loop-state-test.true c.loop-state.invariant)
      | else-state_ends w ↦ rw w.ending-is (filled-unset (state_ends a) states state c.loop-state.ending (sym w.if-state_ends.ensures) c.loop-state.invariant)
    ]

pub returns : goal.returns
returns c =
    subst (λ n. AreEnding c.args.a.now n c.loop-state.ending) c.states-states.ensures.count
    (ending-all c.args.a.now c.states-states.result c.loop-state.state c.loop-state.ending (omega (arith, c.loop-state-test.false, c.loop-state.auto)) c.loop-state.invariant)
