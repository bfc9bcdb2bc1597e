use Rattle.std.proofs.Common.{◌∙◌, ap, map, option_map, subst, sym}
use Rattle.std.specs.List.{list_any}
use Rattle.rl_report.specs.Findings.{is_finding}
use Rattle.rl_walk.specs.Visits.{moment_of}
use Rattle.rl_judge.specs.RightReport.{HasChecked}
use Rattle.rl_lint.specs.CheckEnding.{ReportsWalk}
use Rattle.rl_lint.specs.Endings.{writes}
use Rattle.rl_lint.specs.Filter.{hidden_count, visible_entries}
use Rattle.rl_lint.proofs.CheckLemmas.{check-refused, check-taken, check-unreadable, reports-walk, walked-first}
use Rattle.rl_lint.proofs.check.check_plan.Goals as goal

pub new-checker-requires : goal.new-checker-requires
new-checker-requires g c = c.requires

pub report_in-requires-clause-valid : goal.report_in-requires-clause-valid
report_in-requires-clause-valid g c = c.requires

pub report_in-requires-clause-universe : goal.report_in-requires-clause-universe
report_in-requires-clause-universe g c = c.in_ok-visible.ensures.universe

pub returns-in-Unreadable-clause-ending : goal.returns-in-Unreadable-clause-ending
returns-in-Unreadable-clause-ending g c =
    check-unreadable c.args.settings _ _ _ _ c.in_ok-read_baseline.field-0 c.in_ok-read_baseline.ensures.read c.in-Unreadable.is

pub returns-in-Refused-clause-ending : goal.returns-in-Refused-clause-ending
returns-in-Refused-clause-ending g c =
    check-refused c.args.settings _ _ _ _ c.in_ok-read_baseline.field-0 c.in_ok-read_baseline.ensures.read c.in-Refused.is

pub returns-clause-ending : goal.returns-clause-ending
returns-clause-ending g c =
    let paths = map (λ p. p.now) c.args.paths.now in
    let mid = moment_of g.T.Tree.told g.T.Tree.fault_count c.read_baseline.new.tree in
    let new = moment_of g.T.Tree.told g.T.Tree.fault_count c.walk.new.tree in
    let checked = c.walk.new.visitor in
    let walked = walked-first mid new paths (HasChecked c.new-checker.result) (HasChecked checked) c.new-checker.ensures.told c.in_ok-walk.ensures.walked in
    let report = reports-walk c.args.settings c.in-Taken.keys paths mid new checked c.in_ok-visible.visible.entries c.in_ok-visible.visible.hidden c.in_ok-text.text
    c.has_finding-finding.result walked (c.in_ok-walk.ensures.config ∙ c.new-checker.ensures.settings) (c.in_ok-visible.ensures.entries ∙ ap (visible_entries c.in-Taken.keys) c.into_entries.ensures) (c.in_ok-visible.ensures.hidden ∙ ap (hidden_count c.in-Taken.keys) c.into_entries.ensures) c.in_ok-text.ensures (c.has_finding-finding.ensures ∙ ap (list_any (is_finding c.args.settings.max_degree)) c.as_slice.ensures) in
    check-taken c.args.settings paths (option_map (λ p. p.now) c.args.baseline) _ mid new c.in_ok-read_baseline.field-0 c.in-Taken.keys _ c.in_ok-read_baseline.ensures.read c.in-Taken.is
    (subst (λ f. ReportsWalk c.args.settings paths c.in-Taken.keys mid new (writes c.in_ok-text.text c.has_finding-finding.result f)) (sym c.has_unread-failed.ensures) report)
