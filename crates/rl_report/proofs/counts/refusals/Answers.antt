use Rattle.std.proofs.Common.{sym, ap, ◌∙◌, arith}
use Rattle.std.specs.List.{count_by}
use Rattle.std.proofs.lemmas.List.{take_all}
use Rattle.rl_report.specs.Findings.{is_refused}
use Rattle.rl_report.proofs.CountLemmas.{counted, passed_over, few_so_far}
use Rattle.rl_report.proofs.counts.refusals.Goals as goal
use Rattle.rl_report.proofs.counts.refusals.Goals.{then-is_refused, else-is_refused}

pub loop-entry-preserved : goal.loop-entry-preserved
loop-entry-preserved c =
    let entries = c.args.entries.now in
    let at = c.loop-entry.entry-index in
    let entry = c.entry-item.result in
    elim c.if-is_refused.branch [
      | then-is_refused w ↦
          w.count-is ∙ counted is_refused entries at c.loop-entry.count entry c.loop-entry-test.true c.entry-item.is (sym c.is_refused.ensures ∙ w.if-is_refused.true) c.loop-entry.invariant
      | else-is_refused w ↦
          w.count-is ∙ passed_over is_refused entries at c.loop-entry.count entry c.loop-entry-test.true c.entry-item.is (sym c.is_refused.ensures ∙ w.if-is_refused.false) c.loop-entry.invariant
    ]

pub returns : goal.returns
returns c = c.loop-entry.invariant ∙ ap (count_by is_refused) (take_all c.loop-entry.entry-index c.args.entries.now c.loop-entry-test.false)

pub overflow_add-count : goal.overflow_add-count
overflow_add-count c = omega (arith, few_so_far is_refused c.args.entries.now c.loop-entry.entry-index c.loop-entry.count c.loop-entry.invariant)
