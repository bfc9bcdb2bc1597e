use Rattle.std.proofs.Common.{sym}
use Rattle.rl_lanes.proofs.PackedLemmas.{IsRow-length}
use Rattle.rl_lanes.proofs.row.BitRow.len.Goals as goal

pub returns : goal.returns
returns c = sym (IsRow-length (record { packed = c.self.invariant; shows = c.self.view_is }))
