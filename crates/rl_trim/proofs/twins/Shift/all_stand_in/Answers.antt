use Rattle.std.proofs.Common.{◌≡◌, inl, inr, subst, arith}
use Rattle.std.proofs.lemmas.Bool.{cases_lt}
use Rattle.rl_trim.specs.internal.Twins.{stand_in, IsReplaced}
use Rattle.rl_trim.proofs.twins.Shift.all_stand_in.Goals as goal

pub loop-state-preserved : goal.loop-state-preserved
loop-state-preserved c =
    let self = c.args.self.now in
    λ q low lt.
    elim (cases_lt q c.loop-state.state) [
      | inl less ↦ c.loop-state.invariant q low less
      | inr ge ↦
          let e : c.loop-state.state ≡ q = omega arith in
          subst (IsReplaced self.automaton.now self.before.now self.keep.now (stand_in self.keep.now self.distance)) e (c.is_replaced.ensures c.if-not-is_replaced.false)
    ]
