use Rattle.rl_graph.specs.Parts.{PartTable}
use Rattle.rl_graph.proofs.PartLaws.{parts_from}
use Rattle.rl_graph.proofs.parts.parts_of.Goals as goal

pub returns : goal.returns
returns g c =
    let p : PartTable = record { numbers = c.in_ok-numbers.numbers.items; cycles = c.in_ok-cycles.cycles.items } in
    let a = c.in_ok-cycles.ensures in
    parts_from (g.M.NextStates.next c.args.m.now) (g.M.NextStates.size c.args.m.now) (g.M.NextStates.width c.args.m.now) p c.deref.result.now c.states-states.ensures.bounded c.in_ok-numbers.ensures c.deref.ensures.value a
