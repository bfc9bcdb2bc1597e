use Rattle.std.proofs.Common.{arith}
use Rattle.rl_lanes.proofs.TableLemmas.{IsTable, IsTable-length}
use Rattle.rl_lanes.proofs.table.BitTable.runs.Goals as goal

pub loop-row-init : goal.loop-row-init
loop-row-init c =
    let t : IsTable c.self.inside.rows c.self.inside.len c.self.inside.words.items c.args.self.now = record { packed = c.self.invariant.packed; shows = c.self.view_is } in
    record {
      within = omega (arith, IsTable-length t);
      long = omega (arith, IsTable-length t, c.in_ok-ends.ensures.len, c.in_ok-ends.ends.ok.0);
      runs = λ i ge lt. absurd (omega (arith, IsTable-length t));
    }
