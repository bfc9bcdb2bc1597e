use Rattle.std.proofs.Common.{ap, sym, ◌∙◌, cond, w64}
use Rattle.std.proofs.lemmas.Nat.Bits.{bit_at_set_same, bit_at_set_other, bit_at_clear_same, bit_at_clear_other}
use Rattle.rl_lanes.proofs.bits.with_bit.Goals as goal

pub returns-then-to-clause-same : goal.returns-then-to-clause-same
returns-then-to-clause-same c = bit_at_set_same w64 c.args.word c.args.bit c.requires ∙ sym (ap (λ b. cond b 1 0) c.if-to.true)

pub returns-then-to-clause-others : goal.returns-then-to-clause-others
returns-then-to-clause-others c k below apart = bit_at_set_other w64 c.args.word c.args.bit c.requires k apart

pub returns-else-to-clause-same : goal.returns-else-to-clause-same
returns-else-to-clause-same c = bit_at_clear_same w64 c.args.word c.args.bit c.requires ∙ sym (ap (λ b. cond b 1 0) c.if-to.false)

pub returns-else-to-clause-others : goal.returns-else-to-clause-others
returns-else-to-clause-others c k below apart = bit_at_clear_other w64 c.args.word c.args.bit c.requires k below apart
