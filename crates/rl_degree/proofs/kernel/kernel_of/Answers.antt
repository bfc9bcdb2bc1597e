use Rattle.std.proofs.Common.{◌≡◌, ◌+◌, sym, ◌∙◌, subst, arith}
use Rattle.rl_kernel.specs.Seats.{seats_of, with_seat}
use Rattle.rl_degree.specs.internal.Kernel.{IsKernelUpTo}
use Rattle.rl_graph.specs.Parts.{cycle_of}
use Rattle.rl_kernel.proofs.SeatLaws.{holds-more, holds-passed}
use Rattle.rl_degree.proofs.kernel.kernel_of.Goals as goal
use Rattle.rl_degree.proofs.kernel.kernel_of.Goals.{then-on_cycle+in_ok-put, else-on_cycle}

pub loop-state-preserved : goal.loop-state-preserved
loop-state-preserved c =
    let p = c.args.components.now in
    let n = c.args.count in
    let x = c.loop-state.state in
    let s = seats_of c.loop-state.kernel in
    elim c.if-on_cycle.branch [
      | then-on_cycle+in_ok-put w ↦
          let e : seats_of c.if-on_cycle.kernel ≡ with_seat x w.of.result s = rw w.kernel-is w.in_ok-put.ensures in
          subst (IsKernelUpTo p n (x + 1)) (sym e)
          (holds-more p n x w.of.result s (omega arith) w.of.ensures c.loop-state.invariant.seats (cycle_of p) c.loop-state.invariant)
      | else-on_cycle w ↦
          rw w.kernel-is (holds-passed (cycle_of p) p n x s (sym c.on_cycle.ensures ∙ w.if-on_cycle.false) c.loop-state.invariant)
    ]
