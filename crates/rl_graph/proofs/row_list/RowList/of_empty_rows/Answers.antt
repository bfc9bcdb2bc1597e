use Rattle.std.proofs.Common.{vec_len}
use Rattle.rl_graph.proofs.SpanLaws.{rows-empty, within-empty, resized}
use Rattle.rl_graph.proofs.row_list.RowList.of_empty_rows.Goals as goal

pub invariant_of-result : goal.invariant_of-result
invariant_of-result c =
    within-empty c.new-numbers.result.items c.new-apart.result.items c.resize.new.self.items c.args.count c.new-apart.ensures.items
    (resized c.new-spans.result.items c.resize.new.self.items (vec_len c.new-spans.result) c.args.count c.new-spans.ensures.items c.new-spans.ensures.len c.in_ok-resize.ensures.items)

pub returns : goal.returns
returns c =
    rows-empty c.new-numbers.result.items c.new-apart.result.items c.resize.new.self.items c.args.count c.new-apart.ensures.items
    (resized c.new-spans.result.items c.resize.new.self.items (vec_len c.new-spans.result) c.args.count c.new-spans.ensures.items c.new-spans.ensures.len c.in_ok-resize.ensures.items)
