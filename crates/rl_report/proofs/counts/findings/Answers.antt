use Rattle.std.proofs.Common.{sym, ap, ◌∙◌, arith}
use Rattle.std.specs.List.{count_by}
use Rattle.std.proofs.lemmas.List.{take_all}
use Rattle.rl_report.specs.Findings.{is_finding}
use Rattle.rl_report.proofs.CountLemmas.{counted, passed_over, few_so_far}
use Rattle.rl_report.proofs.counts.findings.Goals as goal
use Rattle.rl_report.proofs.counts.findings.Goals.{then-is_finding, else-is_finding}

pub loop-entry-preserved : goal.loop-entry-preserved
loop-entry-preserved c =
    let entries = c.args.entries.now in
    let at = c.loop-entry.entry-index in
    let entry = c.entry-item.result in
    elim c.if-is_finding.branch [
      | then-is_finding w ↦
          w.count-is ∙ counted (is_finding c.args.max_degree) entries at c.loop-entry.count entry c.loop-entry-test.true c.entry-item.is (sym c.is_finding.ensures ∙ w.if-is_finding.true) c.loop-entry.invariant
      | else-is_finding w ↦
          w.count-is ∙ passed_over (is_finding c.args.max_degree) entries at c.loop-entry.count entry c.loop-entry-test.true c.entry-item.is (sym c.is_finding.ensures ∙ w.if-is_finding.false) c.loop-entry.invariant
    ]

pub returns : goal.returns
returns c = c.loop-entry.invariant ∙ ap (count_by (is_finding c.args.max_degree)) (take_all c.loop-entry.entry-index c.args.entries.now c.loop-entry-test.false)

pub overflow_add-count : goal.overflow_add-count
overflow_add-count c = omega (arith, few_so_far (is_finding c.args.max_degree) c.args.entries.now c.loop-entry.entry-index c.loop-entry.count c.loop-entry.invariant)
