use Rattle.std.proofs.Common.{◌≡◌, ◌∙◌, Err, ap, codes, false, subst, sym}
use Rattle.rl_walk.specs.Visits.{moment_of}
use Rattle.rl_words.specs.Call.{call_of}
use Rattle.rl_lint.specs.Endings.{refuses, unreadable}
use Rattle.rl_lint.specs.Refusals.{IsRefused, invalid}
use Rattle.rl_lint.specs.RunEnding.{IsRunEnding, asks_tree}
use Rattle.rl_lint.specs.internal.Reads.{AreFit}
use Rattle.rl_lint.proofs.CauseLemmas.{plans-failed, plans-refused, run-failed, run-refused}
use Rattle.rl_lint.proofs.RunLemmas.{asks-none, call-refused, call-unreadable, run-given, run-taken}
use Rattle.rl_lint.proofs.plan.plan_of.Goals as goal

pub returns-in-Ok-Unreadable-clause-ending : goal.returns-in-Ok-Unreadable-clause-ending
returns-in-Ok-Unreadable-clause-ending g c =
    let call = call_of c.in-Ok.words in
    let old = moment_of g.T.Tree.told g.T.Tree.fault_count c.args.tree.now in
    let mid = moment_of g.T.Tree.told g.T.Tree.fault_count c.read_config.new.tree in
    subst (λ o. IsRunEnding o old mid (unreadable (codes "relint: settings unreadable\n"))) (sym c.in-Ok.ensures.ok)
    (call-unreadable call call.options.settings old mid c.in-Ok-Unreadable.field-0 c.in-Ok-Unreadable.ensures.read c.in-Ok-Unreadable.field-0-is)

pub returns-in-Ok-Unreadable-clause-cause : goal.returns-in-Ok-Unreadable-clause-cause
returns-in-Ok-Unreadable-clause-cause g c =
    let call = call_of c.in-Ok.words in
    let old = moment_of g.T.Tree.told g.T.Tree.fault_count c.args.tree.now in
    let mid = moment_of g.T.Tree.told g.T.Tree.fault_count c.read_config.new.tree in
    run-failed call old mid (unreadable (codes "relint: settings unreadable\n"))
    (call-unreadable call call.options.settings old mid c.in-Ok-Unreadable.field-0 c.in-Ok-Unreadable.ensures.read c.in-Ok-Unreadable.field-0-is)

pub returns-in-Ok-Refused-clause-ending : goal.returns-in-Ok-Refused-clause-ending
returns-in-Ok-Refused-clause-ending g c =
    let call = call_of c.in-Ok.words in
    let old = moment_of g.T.Tree.told g.T.Tree.fault_count c.args.tree.now in
    let mid = moment_of g.T.Tree.told g.T.Tree.fault_count c.read_config.new.tree in
    subst (λ o. IsRunEnding o old mid (refuses (codes "relint: settings refused\n"))) (sym c.in-Ok.ensures.ok)
    (call-refused call call.options.settings old mid c.in-Ok-Refused.field-0 c.in-Ok-Refused.ensures.read c.in-Ok-Refused.field-0-is)

pub returns-in-Ok-Refused-clause-refused : goal.returns-in-Ok-Refused-clause-refused
returns-in-Ok-Refused-clause-refused g c =
    let call = call_of c.in-Ok.words in
    run-refused _ call _ _ (refuses (codes "relint: settings refused\n")) c.in-Ok.ensures.ok
    (call-refused call call.options.settings _ _ c.in-Ok-Refused.field-0 c.in-Ok-Refused.ensures.read c.in-Ok-Refused.field-0-is)

pub returns-in-Ok-Taken-clause-ending : goal.returns-in-Ok-Taken-clause-ending
returns-in-Ok-Taken-clause-ending g c =
    let old = moment_of g.T.Tree.told g.T.Tree.fault_count c.args.tree.now in
    let mid = moment_of g.T.Tree.told g.T.Tree.fault_count c.read_config.new.tree in
    let new = moment_of g.T.Tree.told g.T.Tree.fault_count c.action_plan.new.tree in
    run-given c.action_plan.result _ (call_of c.in-Ok.words) old new c.in-Ok.ensures.ok
    (run-taken c.action_plan.result c.in-Ok.words old mid new c.in-Ok-Taken.field-0 c.in-Ok-Taken.start _ c.in-Ok-Taken.ensures.read c.in-Ok-Taken.field-0-is
    c.with_values-settings.ensures.value c.action_plan.ensures.ending)

pub returns-in-Ok-Taken-clause-cause : goal.returns-in-Ok-Taken-clause-cause
returns-in-Ok-Taken-clause-cause g c =
    let old = moment_of g.T.Tree.told g.T.Tree.fault_count c.args.tree.now in
    let mid = moment_of g.T.Tree.told g.T.Tree.fault_count c.read_config.new.tree in
    let new = moment_of g.T.Tree.told g.T.Tree.fault_count c.action_plan.new.tree in
    plans-failed c.action_plan.result (call_of c.in-Ok.words) old new
    (run-taken c.action_plan.result c.in-Ok.words old mid new c.in-Ok-Taken.field-0 c.in-Ok-Taken.start _ c.in-Ok-Taken.ensures.read c.in-Ok-Taken.field-0-is
    c.with_values-settings.ensures.value c.action_plan.ensures.ending)

pub returns-in-Ok-Taken-clause-refused : goal.returns-in-Ok-Taken-clause-refused
returns-in-Ok-Taken-clause-refused g c =
    let old = moment_of g.T.Tree.told g.T.Tree.fault_count c.args.tree.now in
    let mid = moment_of g.T.Tree.told g.T.Tree.fault_count c.read_config.new.tree in
    let new = moment_of g.T.Tree.told g.T.Tree.fault_count c.action_plan.new.tree in
    plans-refused c.action_plan.result _ (call_of c.in-Ok.words) old new c.in-Ok.ensures.ok
    (run-taken c.action_plan.result c.in-Ok.words old mid new c.in-Ok-Taken.field-0 c.in-Ok-Taken.start _ c.in-Ok-Taken.ensures.read c.in-Ok-Taken.field-0-is
    c.with_values-settings.ensures.value c.action_plan.ensures.ending)

pub returns-in-Err-Invalid-clause-refused : goal.returns-in-Err-Invalid-clause-refused
returns-in-Err-Invalid-clause-refused g c = λ e.
    subst (λ o. IsRefused (g.T.Tree.told c.args.tree.now) o) (sym (c.in-Err-Invalid.ensures.invalid (ap Err c.in-Err-Invalid.field-0-is))) invalid

pub returns-in-Ok-Taken-clause-trail : goal.returns-in-Ok-Taken-clause-trail
returns-in-Ok-Taken-clause-trail g c = λ asks.
    let none = asks-none c.in-Ok.words (subst (λ o. asks_tree o ≡ false) c.in-Ok.ensures.ok asks) in
    c.action_plan.ensures.trail none.0 ∙ c.in-Ok-Taken.ensures.still none.1

pub returns-in-Ok-Unreadable-clause-trail : goal.returns-in-Ok-Unreadable-clause-trail
returns-in-Ok-Unreadable-clause-trail g c = λ asks.
    c.in-Ok-Unreadable.ensures.still (asks-none c.in-Ok.words (subst (λ o. asks_tree o ≡ false) c.in-Ok.ensures.ok asks)).1

pub returns-in-Ok-Refused-clause-trail : goal.returns-in-Ok-Refused-clause-trail
returns-in-Ok-Refused-clause-trail g c = λ asks.
    c.in-Ok-Refused.ensures.still (asks-none c.in-Ok.words (subst (λ o. asks_tree o ≡ false) c.in-Ok.ensures.ok asks)).1

pub with_values-settings-requires-clause-ranges : goal.with_values-settings-requires-clause-ranges
with_values-settings-requires-clause-ranges g c = c.in-Ok.ensures.ranges.values

pub with_values-settings-requires-clause-valid : goal.with_values-settings-requires-clause-valid
with_values-settings-requires-clause-valid g c = subst AreFit c.in-Ok-Taken.field-0-is c.in-Ok-Taken.ensures.fit

pub action_plan-requires-clause-ranges : goal.action_plan-requires-clause-ranges
action_plan-requires-clause-ranges g c = c.in-Ok.ensures.ranges.action

pub action_plan-requires-clause-valid : goal.action_plan-requires-clause-valid
action_plan-requires-clause-valid g c = c.with_values-settings.ensures.valid
