use Rattle.std.proofs.Common.{◌∙◌}
use Rattle.rl_ranges.specs.Codes.{is_between}
use Rattle.rl_pattern.specs.LeafCodes.{within}
use Rattle.rl_pattern.proofs.LeafLaws.{between_some, between_none, codes_same}
use Rattle.rl_pattern.proofs.leaf_set.codes_between.Goals as goal

pub returns-then-first-last-clause-members : goal.returns-then-first-last-clause-members
returns-then-first-last-clause-members c =
    codes_same c.range.result (is_between c.args.first c.min-last.result) (within c.args.universe (is_between c.args.first c.args.last)) (λ x. between_some c.args.universe c.args.first c.args.last x _ _ c.count.ensures c.min-last.ensures) c.range.ensures.members

pub returns-else-first-last-clause-members : goal.returns-else-first-last-clause-members
returns-else-first-last-clause-members c =
    λ x. c.no_codes.ensures.members x ∙ between_none c.args.universe c.args.first c.args.last x _ _ c.count.ensures c.min-last.ensures c.if-first-last.false
