use Rattle.std.proofs.Common.{not, ◌&&◌, ◌==◌}
use Rattle.rl_ranges.specs.Codes.{is_between}
use Rattle.rl_pattern.specs.LeafCodes.{within}
use Rattle.rl_pattern.proofs.LeafLaws.{line_feed_out, codes_same}
use Rattle.rl_pattern.proofs.leaf_set.left_out.Goals as goal

pub returns-else-flags-clause-members : goal.returns-else-flags-clause-members
returns-else-flags-clause-members c =
    codes_same c.codes_between.result (within c.args.universe (is_between 10 10)) (within c.args.universe (λ d. not c.args.flags.dot_all && d == 10)) (λ x. line_feed_out c.args.universe c.args.flags x c.if-flags.false) c.codes_between.ensures.members
