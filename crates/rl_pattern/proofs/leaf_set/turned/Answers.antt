use Rattle.std.proofs.Common.{refl, ap, ◌∙◌, sym, not, ◌&&◌, nat_lt}
use Rattle.std.proofs.Math.Bool.{xor}
use Rattle.rl_ranges.specs.Codes.{has}
use Rattle.rl_ranges.specs.Text.{code_count}
use Rattle.rl_pattern.specs.LeafCodes.{within}
use Rattle.rl_pattern.proofs.LeafLaws.{inside_same, codes_same}
use Rattle.rl_pattern.proofs.Looks.{xor_true, xor_false}
use Rattle.rl_pattern.proofs.leaf_set.turned.Goals as goal

pub returns-then-flip : goal.returns-then-flip
returns-then-flip c =
    codes_same c.complement.result (λ x. nat_lt x (code_count c.args.universe) && not (has c.args.set x)) (within c.args.universe (λ d. xor c.args.flip (has c.args.set d)))
    (λ x. ap (λ v. nat_lt x (code_count c.args.universe) && v) (xor_true (has c.args.set x) ∙ sym (ap (λ b. xor b (has c.args.set x)) c.if-flip.true))) c.complement.ensures.members

pub returns-else-flip : goal.returns-else-flip
returns-else-flip c =
    λ x. inside_same c.args.universe c.args.set x (has c.args.set x) c.requires refl
    ∙ ap (λ v. nat_lt x (code_count c.args.universe) && v) (xor_false (has c.args.set x) ∙ sym (ap (λ b. xor b (has c.args.set x)) c.if-flip.false))
