use Rattle.std.proofs.Common.{arith, ap, length}
use Rattle.std.proofs.lemmas.List.{length_push}
use Rattle.rl_degree.proofs.TableLaws.{tables-more}
use Rattle.rl_degree.proofs.moves.move_tables.Goals as goal

pub loop-letter-preserved : goal.loop-letter-preserved
loop-letter-preserved c =
    let old = c.loop-letter.tables.items in
    let table = c.in_ok-table_on.field-0 in
    let e = c.in_ok-push.ensures.items in
    record {
      size = omega (arith, ap length e, length_push old table, c.loop-letter.invariant.size);
      right = tables-more c.args.g.now c.args.inner.now c.loop-letter.letter old c.push.new.self.items table c.loop-letter.invariant.size e c.in_ok-table_on.ensures c.loop-letter.invariant.right;
    }
