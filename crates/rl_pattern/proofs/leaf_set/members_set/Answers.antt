use Rattle.std.proofs.Common.{◌∙◌, ◌||◌}
use Rattle.rl_ranges.specs.Codes.{has}
use Rattle.rl_pattern.specs.Codes.{no_flags}
use Rattle.rl_pattern.specs.internal.LeafSets.{members_in}
use Rattle.rl_pattern.proofs.LeafLaws.{codes_held, codes_are, members_held, codes_same}
use Rattle.rl_pattern.proofs.leaf_set.members_set.Goals as goal

pub returns-clause-members : goal.returns-clause-members
returns-clause-members c =
    codes_same c.union.result (λ x. has c.in_ok-codes-2.codes x || has c.in_ok-kinds.kinds x) (members_in c.args.universe c.args.flags c.args.members.now)
    (λ x. members_held c.args.universe c.args.flags c.args.members.now x (has c.in_ok-codes-2.codes x) (has c.in_ok-kinds.kinds x)
    (c.in_ok-codes-2.ensures.members (codes_held c.args.universe no_flags c.args.members.now) (λ d. c.in_ok-codes.ensures.members d ∙ codes_are c.args.universe c.args.members.now d) x)
    (c.in_ok-kinds.ensures.members x))
    c.union.ensures.members
