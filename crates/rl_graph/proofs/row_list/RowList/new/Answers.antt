use Rattle.rl_graph.proofs.SpanLaws.{rows-empty, within-empty}
use Rattle.rl_graph.proofs.row_list.RowList.new.Goals as goal

pub invariant_of-result : goal.invariant_of-result
invariant_of-result c = within-empty c.new-2.result.items c.new-3.result.items c.new.result.items 0 c.new-3.ensures.items c.new.ensures.items

pub returns : goal.returns
returns c = rows-empty c.new-2.result.items c.new-3.result.items c.new.result.items 0 c.new-3.ensures.items c.new.ensures.items
