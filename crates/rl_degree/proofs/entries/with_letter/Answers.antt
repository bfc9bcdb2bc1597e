use Rattle.std.proofs.Common.{◌%◌, ◌*◌, ◌^◌, ◌∙◌, w64, arith}
use Rattle.std.proofs.lemmas.Nat.Bits.{bit_at_set_same, bit_at_or, bit_at-lt}
use Rattle.rl_degree.proofs.entries.with_letter.Goals as goal

pub returns-clause-set : goal.returns-clause-set
returns-clause-set c = bit_at_set_same w64 c.args.word (c.args.letter % 64) (omega arith)

pub returns-clause-kept : goal.returns-clause-kept
returns-clause-kept c k h = bit_at_or c.args.word (1 * 2 ^ (c.args.letter % 64) % 2 ^ 64) k ∙ omega (arith, h, bit_at-lt (1 * 2 ^ (c.args.letter % 64) % 2 ^ 64) k)
