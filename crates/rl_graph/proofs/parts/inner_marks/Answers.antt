use Rattle.std.proofs.Common.{Bool, List, ◌≡◌, ◌+◌, ◌↔◌, IsTrue, false, get_or, length, sym, subst, ◌∙◌, ap, arith}
use Rattle.std.proofs.lemmas.List.{length_push}
use Rattle.rl_graph.specs.internal.InnerMoves.{HasInner, AreShared}
use Rattle.rl_graph.proofs.PartLaws.{marks-more}
use Rattle.rl_graph.proofs.parts.inner_marks.Goals as goal

pub loop-state-preserved : goal.loop-state-preserved
loop-state-preserved g c =
    let next = g.M.NextStates.next c.args.m.now in
    let i = c.loop-state.invariant in
    let e = c.in_ok-push.ensures.items in (
      ap length e ∙ (length_push c.loop-state.marks.items c.is_inner.result ∙ ap (λ z. z + 1) i.0),
      λ q h. subst (λ (z : List Bool). IsTrue (get_or z q false) ↔ HasInner next c.args.numbers.now q) (sym e)
          (marks-more (HasInner next c.args.numbers.now) c.loop-state.marks.items c.loop-state.state c.is_inner.result i.0 i.1 c.is_inner.ensures q h),
    )

pub is_inner-requires-clause-marked : goal.is_inner-requires-clause-marked
is_inner-requires-clause-marked g c =
    subst (AreShared c.args.numbers.now) (sym c.deref.ensures.value) c.in_ok-shared.ensures

pub returns : goal.returns
returns g c =
    let i = c.loop-state.invariant in
    let e : c.loop-state.state ≡ g.M.NextStates.size c.args.m.now = omega (arith, c.states-state-end.ensures.number) in
    record { size = i.0 ∙ e; inner = λ q h. i.1 q (omega (arith, e, h)) }
