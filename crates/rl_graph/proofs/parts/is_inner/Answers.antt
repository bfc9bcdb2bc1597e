use Rattle.std.proofs.Common.{get_or, refl, sym, true≢false, ◌∙◌}
use Rattle.rl_graph.proofs.PartLaws.{shared-inner, lone-none}
use Rattle.rl_graph.proofs.parts.is_inner.Goals as goal

pub returns-then-shared-numbers : goal.returns-then-shared-numbers
returns-then-shared-numbers g c = (
  λ _. shared-inner (g.M.NextStates.next c.args.m.now) (g.M.NextStates.size c.args.m.now) (g.M.NextStates.width c.args.m.now) c.args.numbers.now c.args.state c.states-states.ensures.bounded c.requires.numbered c.requires.state_in (c.requires.marked.shared (get_or c.args.numbers.now c.args.state 0) c.if-shared-numbers.true),
  λ _. refl,
)

pub returns-else-may_loop : goal.returns-else-may_loop
returns-else-may_loop g c = (
  λ e. absurd (true≢false (sym e ∙ c.if-may_loop.false)),
  λ x. absurd (lone-none (g.M.NextStates.next c.args.m.now) (g.M.NextStates.size c.args.m.now) (g.M.NextStates.width c.args.m.now) c.args.numbers.now c.args.shared.now c.args.state c.states-states.ensures.bounded c.requires.numbered c.requires.state_in c.requires.marked c.if-shared-numbers.false
      (λ l i. true≢false (sym (c.may_loop.ensures l i) ∙ c.if-may_loop.false)) x),
)
