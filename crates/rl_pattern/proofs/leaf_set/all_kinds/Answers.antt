-- One more member.
use Rattle.std.proofs.Common.{◌||◌, ◌∙◌, sym, ap, arith}
use Rattle.std.proofs.lemmas.List.{drop_all}
use Rattle.rl_ranges.specs.Codes.{has}
use Rattle.rl_pattern.specs.internal.LeafSets.{classes_in}
use Rattle.rl_pattern.proofs.LeafLaws.{classes_step, classes_end}
use Rattle.rl_pattern.proofs.leaf_set.all_kinds.Goals as goal

pub loop-member-preserved : goal.loop-member-preserved
loop-member-preserved c =
    record {
      inside = c.in_ok-set.ensures.inside;
      members = λ x. classes_step c.args.universe c.args.flags c.args.members.now c.loop-member.member-index _ x (has c.loop-member.set x) (has c.in_ok-set.set x) _ c.loop-member-test.true (c.in_ok-set.ensures.members x) (c.loop-member.invariant.members x);
    }

pub returns-clause-members : goal.returns-clause-members
returns-clause-members c =
    λ x. sym (ap (λ l. has c.loop-member.set x || classes_in c.args.universe c.args.flags l x) (drop_all c.loop-member.member-index c.args.members.now (omega arith)) ∙ classes_end c.args.universe c.args.flags x (has c.loop-member.set x)) ∙ c.loop-member.invariant.members x
