-- One more member.
use Rattle.std.proofs.Common.{◌||◌, ◌∙◌, sym, ap, arith}
use Rattle.std.proofs.lemmas.List.{drop_all}
use Rattle.rl_ranges.specs.Codes.{has}
use Rattle.rl_pattern.specs.internal.LeafSets.{codes_in}
use Rattle.rl_pattern.proofs.LeafLaws.{codes_step, codes_end}
use Rattle.rl_pattern.proofs.leaf_set.all_codes.Goals as goal

pub loop-member-preserved : goal.loop-member-preserved
loop-member-preserved c =
    record {
      inside = c.in_ok-set.ensures.inside c.args.universe c.loop-member.invariant.inside c.in_ok-more.ensures.inside;
      members = λ x. codes_step c.args.universe c.args.members.now c.loop-member.member-index _ x (has c.loop-member.set x) (has c.in_ok-more.more x) (has c.in_ok-set.set x) _ c.loop-member-test.true (c.in_ok-set.ensures.members x) (c.in_ok-more.ensures.members x) (c.loop-member.invariant.members x);
    }

pub returns-clause-members : goal.returns-clause-members
returns-clause-members c =
    λ x. sym (ap (λ l. has c.loop-member.set x || codes_in c.args.universe l x) (drop_all c.loop-member.member-index c.args.members.now (omega arith)) ∙ codes_end c.args.universe x (has c.loop-member.set x)) ∙ c.loop-member.invariant.members x
