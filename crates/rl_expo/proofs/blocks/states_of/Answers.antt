use Rattle.std.proofs.Common.{◌≡◌, ◌==◌, ◌+◌, ℕ, Bool, sym, ◌∙◌, subst, arith, ne_eqb}
use Rattle.rl_graph.specs.Parts.{number_of}
use Rattle.rl_kernel.specs.Seats.{seats_of, with_seat, HoldsUpTo}
use Rattle.rl_kernel.proofs.SeatLaws.{holds-more, holds-passed}
use Rattle.rl_expo.proofs.blocks.states_of.Goals.{then-of-number+in_ok-put, else-of-number}
use Rattle.rl_expo.proofs.blocks.states_of.Goals as goal

pub loop-state-preserved : goal.loop-state-preserved
loop-state-preserved c =
    let p = c.args.components.now in
    let n = c.args.count in
    let k = c.args.number in
    let x = c.loop-state.state in
    let s = seats_of c.loop-state.kernel in
    let test : ℕ → Bool = λ q. number_of p q == k in
    elim c.if-of-number.branch [
      | then-of-number+in_ok-put w ↦
          let e : seats_of c.if-of-number.kernel ≡ with_seat x k s = rw w.kernel-is w.in_ok-put.ensures in
          let is : k ≡ number_of p x = sym w.if-of-number.true ∙ c.of.ensures in
          subst (HoldsUpTo test p n (x + 1)) (sym e) (holds-more p n x k s (omega arith) is c.loop-state.invariant.seats test c.loop-state.invariant)
      | else-of-number w ↦
          rw w.kernel-is (holds-passed test p n x s (ne_eqb _ _ (λ e. w.if-of-number.false (c.of.ensures ∙ e))) c.loop-state.invariant)
    ]
