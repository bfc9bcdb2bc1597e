use Rattle.rl_report.specs.declared.report.Mark.{Mark}
use Rattle.rl_report.specs.Document.{place_data}
use Rattle.rl_report.proofs.ValueLemmas.{value_more, value_all}
use Rattle.rl_report.proofs.document.marks_value.Goals as goal

pub loop-mark-preserved : goal.loop-mark-preserved
loop-mark-preserved c =
    value_more (λ (m : Mark). place_data m.at) _ _ c.args.marks.now c.loop-mark.mark-index c.mark-item.result c.in_ok-value.value
    c.loop-mark-test.true c.mark-item.is c.in_ok-value.ensures c.loop-mark.invariant c.in_ok-push.ensures.items

pub returns : goal.returns
returns c =
    value_all (λ (m : Mark). place_data m.at) c.loop-mark.values c.args.marks.now c.loop-mark.mark-index c.loop-mark-test.false c.loop-mark.invariant
