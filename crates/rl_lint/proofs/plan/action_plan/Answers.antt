use Rattle.std.proofs.Common.{refl, subst}
use Rattle.rl_words.specs.Call.{HasActionRanges, asked}
use Rattle.rl_lint.proofs.CheckLemmas.{check-ends}
use Rattle.rl_lint.proofs.RunLemmas.{compare-ends, cost-ends, prove-ends}
use Rattle.rl_lint.proofs.plan.action_plan.Goals as goal

pub check_plan-plan-requires : goal.check_plan-plan-requires
check_plan-plan-requires g c = c.requires.valid

pub class_plan-requires-clause-some : goal.class_plan-requires-clause-some
class_plan-requires-clause-some g c = c.requires.valid.some

pub class_plan-requires-clause-few : goal.class_plan-requires-clause-few
class_plan-requires-clause-few g c = c.requires.valid.few

pub sample_plan-requires-clause-some : goal.sample_plan-requires-clause-some
sample_plan-requires-clause-some g c = (subst (λ a. HasActionRanges (asked a)) c.in-Sample.is c.requires.ranges).1.0

pub sample_plan-requires-clause-few : goal.sample_plan-requires-clause-few
sample_plan-requires-clause-few g c = (subst (λ a. HasActionRanges (asked a)) c.in-Sample.is c.requires.ranges).1.1

pub sample_plan-requires-clause-valid : goal.sample_plan-requires-clause-valid
sample_plan-requires-clause-valid g c = c.requires.valid

pub prove_plan-requires-clause-some : goal.prove_plan-requires-clause-some
prove_plan-requires-clause-some g c = c.requires.valid.some

pub prove_plan-requires-clause-few : goal.prove_plan-requires-clause-few
prove_plan-requires-clause-few g c = c.requires.valid.few

pub verify_plan-requires-clause-some : goal.verify_plan-requires-clause-some
verify_plan-requires-clause-some g c = c.requires.valid.some

pub verify_plan-requires-clause-few : goal.verify_plan-requires-clause-few
verify_plan-requires-clause-few g c = c.requires.valid.few

pub returns-in-Check-clause-ending : goal.returns-in-Check-clause-ending
returns-in-Check-clause-ending g c =
    check-ends _ _ c.args.options.now _ _ _ _ _ c.in-Check.is c.as_slice.ensures c.check_plan-plan.ensures.ending

pub returns-in-Class-clause-trail : goal.returns-in-Class-clause-trail
returns-in-Class-clause-trail g c = λ asks. refl

pub returns-in-Cost-clause-ending : goal.returns-in-Cost-clause-ending
returns-in-Cost-clause-ending g c =
    cost-ends c.cost_plan.result c.args.settings c.args.options.now c.args.action c.in-Cost.pattern c.in-Cost.text _ _ c.in-Cost.is c.mode_given-mode.ensures c.cost_plan.ensures

pub returns-in-Cost-clause-trail : goal.returns-in-Cost-clause-trail
returns-in-Cost-clause-trail g c = λ asks. refl

pub returns-in-Sample-clause-trail : goal.returns-in-Sample-clause-trail
returns-in-Sample-clause-trail g c = λ asks. refl

pub returns-in-Prove-clause-ending : goal.returns-in-Prove-clause-ending
returns-in-Prove-clause-ending g c =
    prove-ends c.prove_plan.result c.args.settings c.args.options.now c.args.action c.in-Prove.pattern _ _ c.in-Prove.is c.mode_given-mode.ensures c.prove_plan.ensures

pub returns-in-Prove-clause-trail : goal.returns-in-Prove-clause-trail
returns-in-Prove-clause-trail g c = λ asks. refl

pub returns-in-Compare-clause-ending : goal.returns-in-Compare-clause-ending
returns-in-Compare-clause-ending g c =
    compare-ends c.compare_plan.result c.args.settings c.args.options.now c.args.action c.in-Compare.first c.in-Compare.second _ _ c.in-Compare.is c.mode_given-mode.ensures
    c.compare_plan.ensures

pub returns-in-Compare-clause-trail : goal.returns-in-Compare-clause-trail
returns-in-Compare-clause-trail g c = λ asks. refl
