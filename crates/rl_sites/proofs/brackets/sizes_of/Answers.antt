-- One more token, counted from the end.
use Rattle.std.proofs.Common.{arith, ap, length}
use Rattle.std.proofs.lemmas.List.{length_push}
use Rattle.rl_sites.proofs.Tables.{table_more, table_next}
use Rattle.rl_sites.proofs.brackets.sizes_of.Goals as goal

pub next_size-size-requires-clause-table : goal.next_size-size-requires-clause-table
next_size-size-requires-clause-table c =
    table_next c.args.source.now c.args.tokens.now c.rest_from.result.now c.loop-left.sizes.items c.as_slice.result.now c.loop-left.left
    (omega arith) c.loop-left.invariant.table c.rest_from.ensures c.as_slice.ensures.value

pub loop-left-preserved : goal.loop-left-preserved
loop-left-preserved c = record {
  within = omega arith;
  size = omega (arith, ap length c.in_ok-push-2.ensures.items, length_push c.loop-left.sizes.items c.next_size-size.result);
  table =
      table_more c.args.source.now c.args.tokens.now c.rest_from.result.now c.loop-left.sizes.items c.push-in-loop-left.new.self.items c.loop-left.left c.next_size-size.result
      (omega arith) c.loop-left.invariant.within c.loop-left.invariant.table c.loop-left.invariant.size c.rest_from.ensures c.next_size-size.ensures c.in_ok-push-2.ensures.items;
}
