use Rattle.std.proofs.Common.{ℕ, not, sym, ap, arith}
use Rattle.rl_trim.specs.Twins.{is_kept}
use Rattle.rl_trim.proofs.RowLaws.{filled-none, filled-set, filled-unset, gone-all}
use Rattle.rl_trim.proofs.branch.gone_of.Goals as goal
use Rattle.rl_trim.proofs.branch.gone_of.Goals.{then-not-is_kept, else-not-is_kept}

pub loop-state-init : goal.loop-state-init
loop-state-init c = filled-none (λ q. not (is_kept c.args.keep.now q)) c.args.states c.in_ok-gone.gone c.in_ok-gone.ensures

pub loop-state-preserved : goal.loop-state-preserved
loop-state-preserved c =
    let f = λ (q : ℕ). not (is_kept c.args.keep.now q) in
    let states = c.args.states in
    let state = c.loop-state.state in
    elim c.if-not-is_kept.branch [
      | then-not-is_kept w ↦ rw w.gone-is (filled-set f states state c.loop-state.gone w.set.new.self (ap not (sym w.if-not-is_kept.ensures)) w.set.ensures c.loop-state-test.true c.loop-state.invariant)
      | else-not-is_kept w ↦ rw w.gone-is (filled-unset f states state c.loop-state.gone (ap not (sym w.if-not-is_kept.ensures)) c.loop-state.invariant)
    ]

pub returns : goal.returns
returns c = gone-all c.args.keep.now c.args.states c.loop-state.state c.loop-state.gone (omega (arith, c.loop-state-test.false, c.loop-state.auto)) c.loop-state.invariant
