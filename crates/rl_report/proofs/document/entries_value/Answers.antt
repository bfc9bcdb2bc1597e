use Rattle.std.proofs.Common.{sym, subst}
use Rattle.rl_report.specs.Layouts.{IsOfItsUniverse}
use Rattle.rl_report.specs.Document.{entry_data}
use Rattle.rl_report.proofs.ValueLemmas.{value_more, value_all}
use Rattle.rl_report.proofs.document.entries_value.Goals as goal

pub loop-entry-preserved : goal.loop-entry-preserved
loop-entry-preserved c =
    value_more (entry_data c.args.terms.max_pairs c.args.terms.report) _ _ c.args.entries.now c.loop-entry.entry-index c.entry-item.result c.in_ok-value.value
    c.loop-entry-test.true c.entry-item.is c.in_ok-value.ensures c.loop-entry.invariant c.in_ok-push.ensures.items

pub returns : goal.returns
returns c =
    value_all (entry_data c.args.terms.max_pairs c.args.terms.report) c.loop-entry.values c.args.entries.now c.loop-entry.entry-index c.loop-entry-test.false
    c.loop-entry.invariant

pub entry_value-requires : goal.entry_value-requires
entry_value-requires c = subst IsOfItsUniverse (sym c.entry-item.is) (c.requires c.loop-entry.entry-index c.entry-item.result c.loop-entry-test.true)
