use Rattle.std.proofs.Common.{length, ap, arith}
use Rattle.rl_lanes.proofs.StoredLemmas.{place_fits, IsRow-test}
use Rattle.rl_lanes.proofs.row.BitRow.get.Goals as goal

pub bounds-as_slice-i : goal.bounds-as_slice-i
bounds-as_slice-i c = omega (arith, place_fits c.args.i (record { packed = c.self.invariant; shows = c.self.view_is }) c.requires, ap length c.as_slice.ensures)

pub returns : goal.returns
returns c = IsRow-test c.args.i c.has_bit.result c.as_slice.result.now (record { packed = c.self.invariant; shows = c.self.view_is }) c.as_slice.ensures c.has_bit.ensures
