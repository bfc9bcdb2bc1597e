use Rattle.std.proofs.Common.{◌-◌, ◌^◌, bit_and, ap, ◌∙◌, arith}
use Rattle.std.specs.Int.{bit_at}
use Rattle.std.proofs.lemmas.Nat.Bits.{ones_shl, bit_at_and, bit_at_mask_inside, bit_at_mask_below, bit_at-lt}
use Rattle.rl_lanes.proofs.bits.from_bit.Goals as goal

pub returns-clause-below : goal.returns-clause-below
returns-clause-below c k lt =
    let word = c.args.word in
    let bit = c.args.bit in
    ap (λ m. bit_at (bit_and word m) k) (ones_shl 64 bit (omega arith))
    ∙ bit_at_and word (2 ^ 64 - 2 ^ bit) k
    ∙ omega (arith, bit_at_mask_below bit 64 k lt)

pub returns-clause-kept : goal.returns-clause-kept
returns-clause-kept c k ge lt =
    let word = c.args.word in
    let bit = c.args.bit in
    ap (λ m. bit_at (bit_and word m) k) (ones_shl 64 bit (omega arith))
    ∙ bit_at_and word (2 ^ 64 - 2 ^ bit) k
    ∙ omega (arith, bit_at_mask_inside bit 64 k ge lt, bit_at-lt word k)
