use Rattle.std.proofs.Common.{◌||◌, ap}
use Rattle.rl_ranges.specs.Codes.{has}
use Rattle.rl_pattern.specs.internal.LeafSets.{class_in}
use Rattle.rl_pattern.proofs.LeafLaws.{class_kind, codes_same}
use Rattle.rl_pattern.proofs.leaf_set.with_kind.Goals as goal

pub returns-in_ok-more-in-One-default-Kind-clause-members : goal.returns-in_ok-more-in-One-default-Kind-clause-members
returns-in_ok-more-in-One-default-Kind-clause-members c =
    let arm = c.in-One-default-Kind in
    let more = c.in_ok-more-in-One-default-Kind in
    codes_same c.union.result (λ x. has c.args.set x || has more.more x) (λ x. has c.args.set x || class_in c.args.universe c.args.flags c.args.member x)
    (λ x. ap (λ b. has c.args.set x || b) (class_kind c.args.universe c.args.flags c.args.member arm.field-0 arm.field-1 arm.kind arm.inverse x more.more arm.is (rw arm.is at arm.field-1-is) more.ensures.inside (more.ensures.members x)))
    c.union.ensures.members
