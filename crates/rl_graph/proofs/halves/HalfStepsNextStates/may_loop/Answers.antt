use Rattle.rl_graph.proofs.HalfLaws.{halves-no_loop}
use Rattle.rl_graph.proofs.halves.HalfStepsNextStates.may_loop.Goals as goal

pub returns : goal.returns
returns c =
    let h = c.args.self.now in
    λ l i. absurd (halves-no_loop h.graph.now h.rows.now.numbers.items h.rows.now.owners.items c.states-states.ensures.whole h.numbered.some h.numbered.numbered h.marks.now c.args.from l i)
