use Rattle.std.proofs.Common.{sym, arith, true≢false, below_more}
use Rattle.rl_graph.specs.internal.InnerMoves.{HasInnerOn}
use Rattle.rl_graph.proofs.PartLaws.{inner-letters, no-more}
use Rattle.rl_graph.proofs.parts.has_inner.Goals as goal

pub loop-letter-preserved : goal.loop-letter-preserved
loop-letter-preserved g c =
    below_more (λ k. HasInnerOn (g.M.NextStates.next c.args.m.now) c.args.numbers.now c.args.state k → ⊥) c.loop-letter.letter c.loop-letter.invariant (λ m. true≢false (sym (c.if-has_inner_on.ensures.1 m)))

pub returns : goal.returns
returns g c =
    let next = g.M.NextStates.next c.args.m.now in
    let end = c.end_letter-letter-end.result in
    let idle = no-more next (g.M.NextStates.size c.args.m.now) (g.M.NextStates.width c.args.m.now) end c.args.state c.states-states.ensures.bounded c.end_letter-letter-end.ensures.none in (
      λ e. absurd (true≢false (sym e)),
      λ m. absurd (inner-letters next end c.args.numbers.now c.args.state idle (λ k h. c.loop-letter.invariant k (omega arith)) m),
    )
