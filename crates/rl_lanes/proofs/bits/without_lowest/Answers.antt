use Rattle.std.proofs.Common.{◌<◌, ◌-◌, subst, arith, w64}
use Rattle.std.proofs.lemmas.Nat.Bits.{bit_at_and, bit_at-lt, bit_at-trailing_zeros}
use Rattle.indexmap.specs.IndexTable.Group.{IsBitSet}
use Rattle.indexmap.proofs.IndexTableLemmas.Bits.{bit_remove_lowest}
use Rattle.rl_lanes.proofs.bits.without_lowest.Goals as goal

pub returns-clause-inside : goal.returns-clause-inside
returns-clause-inside c k e =
    let word = c.args.word in
    omega (arith, bit_at_and word (word - 1) k, bit_at-lt word k, e)

pub returns-clause-kept : goal.returns-clause-kept
unfolding IsBitSet
returns-clause-kept c i k lt set_below set =
    let word = c.args.word in
    let some : 0 < word = omega (arith, c.requires) in
    bit_remove_lowest 64 word k some c.ranges.word.fits set (λ e. (let off = (bit_at-trailing_zeros w64 word some c.ranges.word.fits).2 i (subst (λ n. i < n) e lt) in omega (arith, off, set_below)))
