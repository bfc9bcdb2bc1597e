use Rattle.std.proofs.Common.{◌∙◌, not, ◌&&◌, nat_lt}
use Rattle.rl_ranges.specs.Codes.{has}
use Rattle.rl_ranges.specs.Text.{code_count}
use Rattle.rl_pattern.specs.internal.LeafSets.{kind_in}
use Rattle.rl_pattern.proofs.LeafLaws.{kind_same, kind_other, codes_same}
use Rattle.rl_pattern.proofs.leaf_set.kind_set.Goals as goal

pub returns-then-inverse-clause-members : goal.returns-then-inverse-clause-members
returns-then-inverse-clause-members c =
    codes_same c.complement.result (λ x. nat_lt x (code_count c.args.universe) && not (has c.in_ok-class.class x)) (kind_in c.args.universe c.args.flags c.args.kind c.args.inverse)
    (λ x. kind_other c.args.universe c.args.flags c.args.kind c.args.inverse x (has c.in_ok-class.class x) c.if-inverse.true (c.in_ok-class.ensures.members x))
    c.complement.ensures.members

pub returns-else-inverse-clause-members : goal.returns-else-inverse-clause-members
returns-else-inverse-clause-members c =
    λ x. c.in_ok-class.ensures.members x ∙ kind_same c.args.universe c.args.flags c.args.kind c.args.inverse x c.if-inverse.false
