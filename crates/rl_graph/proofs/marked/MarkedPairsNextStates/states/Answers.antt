use Rattle.rl_graph.proofs.MarkedLaws.{listed-bounded}
use Rattle.rl_graph.proofs.marked.MarkedPairsNextStates.states.Goals as goal

pub returns-clause-bounded : goal.returns-clause-bounded
returns-clause-bounded c =
    let f = c.args.self.now in
    listed-bounded f.graph.now f.marks.now f.letters.now f.repeats.now c.states.ensures.whole
