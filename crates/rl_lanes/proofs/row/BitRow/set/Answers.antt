use Rattle.std.proofs.Common.{length, ap, arith}
use Rattle.rl_lanes.proofs.StoredLemmas.{place_fits, IsRow-put}
use Rattle.rl_lanes.proofs.row.BitRow.set.Goals as goal

pub bounds-words-word : goal.bounds-words-word
bounds-words-word c = omega (arith, place_fits c.args.i (record { packed = c.self.invariant; shows = c.self.view_is }) c.requires, ap length c.as_mut_slice-words.ensures.value)

pub bounds-words-word-2 : goal.bounds-words-word-2
bounds-words-word-2 c = omega (arith, place_fits c.args.i (record { packed = c.self.invariant; shows = c.self.view_is }) c.requires, ap length c.as_mut_slice-words.ensures.value)

pub invariant_of-self : goal.invariant_of-self
invariant_of-self c = (IsRow-put c.args.i c.with_bit.result c.args.to c.as_mut_slice-words.result.now (record { packed = c.self.invariant; shows = c.self.view_is }) c.requires c.as_mut_slice-words.ensures.value c.with_bit.ensures.same c.with_bit.ensures.others).packed

pub returns : goal.returns
returns c = (IsRow-put c.args.i c.with_bit.result c.args.to c.as_mut_slice-words.result.now (record { packed = c.self.invariant; shows = c.self.view_is }) c.requires c.as_mut_slice-words.ensures.value c.with_bit.ensures.same c.with_bit.ensures.others).shows
