use Rattle.std.proofs.Common.{ℕ, ◌+◌, ◌*◌, ap, arith}
use Rattle.rl_numbers.proofs.DoubleList.{diagonal-push}
use Rattle.rl_numbers.proofs.diagonal.diagonal.Goals as goal

pub loop-state-preserved : goal.loop-state-preserved
loop-state-preserved c =
    diagonal-push c.args.states c.loop-state.state (c.loop-state.state * c.from-count.result + c.loop-state.state) c.loop-state.pairs.items c.push.new.self.items
    (omega (arith, c.loop-state-test.true, c.from-count.ensures)) (ap (λ (n : ℕ). c.loop-state.state * n + c.loop-state.state) c.from-count.ensures) c.in_ok-push.ensures.items c.loop-state.invariant
