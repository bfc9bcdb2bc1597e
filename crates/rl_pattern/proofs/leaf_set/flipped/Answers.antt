use Rattle.std.proofs.Common.{ap, ◌∙◌, sym}
use Rattle.std.proofs.Math.Bool.{xor}
use Rattle.rl_pattern.proofs.Looks.{xor_true, xor_false}
use Rattle.rl_pattern.proofs.leaf_set.flipped.Goals as goal

pub returns-then-flip : goal.returns-then-flip
returns-then-flip c = xor_true c.args.value ∙ sym (ap (λ b. xor b c.args.value) c.if-flip.true)

pub returns-else-flip : goal.returns-else-flip
returns-else-flip c = xor_false c.args.value ∙ sym (ap (λ b. xor b c.args.value) c.if-flip.false)
