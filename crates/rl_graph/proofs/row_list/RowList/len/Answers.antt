use Rattle.std.proofs.Common.{ap, length, arith}
use Rattle.rl_graph.proofs.SpanLaws.{rows-length}
use Rattle.rl_graph.proofs.row_list.RowList.len.Goals as goal

pub returns-clause-number : goal.returns-clause-number
returns-clause-number c =
    omega (arith, c.len.ensures, rows-length c.self.inside.numbers.items c.self.inside.apart.items c.self.inside.spans.items, ap length c.self.view_is, c.self.inside.spans.ok.0)
