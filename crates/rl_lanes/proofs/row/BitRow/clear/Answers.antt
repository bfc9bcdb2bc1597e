use Rattle.rl_lanes.proofs.StoredLemmas.{IsRow-cleared}
use Rattle.rl_lanes.proofs.row.BitRow.clear.Goals as goal

pub invariant_of-self : goal.invariant_of-self
invariant_of-self c = (IsRow-cleared _ c.fill.new.self (record { packed = c.self.invariant; shows = c.self.view_is }) c.as_mut_slice.ensures.value (c.fill.ensures.after (λ y e. e))).packed

pub returns : goal.returns
returns c = (IsRow-cleared _ c.fill.new.self (record { packed = c.self.invariant; shows = c.self.view_is }) c.as_mut_slice.ensures.value (c.fill.ensures.after (λ y e. e))).shows
