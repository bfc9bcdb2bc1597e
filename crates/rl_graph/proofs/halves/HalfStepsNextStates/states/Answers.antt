use Rattle.rl_graph.proofs.HalfLaws.{halves-bounded}
use Rattle.rl_graph.proofs.halves.HalfStepsNextStates.states.Goals as goal

pub returns-clause-bounded : goal.returns-clause-bounded
returns-clause-bounded c =
    let h = c.args.self.now in
    halves-bounded h.graph.now h.rows.now.numbers.items h.rows.now.owners.items c.states.ensures.whole h.numbered.some h.numbered.numbered h.marks.now
