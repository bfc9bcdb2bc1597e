use Rattle.std.proofs.Common.{sym, subst}
use Rattle.rl_report.specs.Layouts.{IsOfItsUniverse, entry_lines}
use Rattle.rl_report.proofs.LineLemmas.{piece_more, pieces_all}
use Rattle.rl_report.proofs.lines.push_entries.Goals as goal

pub loop-entry-preserved : goal.loop-entry-preserved
loop-entry-preserved c =
    piece_more (entry_lines c.args.terms.max_pairs c.args.terms.report) _ _ _ c.args.entries.now c.loop-entry.entry-index c.entry-item.result
    c.loop-entry-test.true c.entry-item.is c.loop-entry.invariant c.in_ok-push_entry.ensures

pub push_entry-requires : goal.push_entry-requires
push_entry-requires c = subst IsOfItsUniverse (sym c.entry-item.is) (c.requires c.loop-entry.entry-index c.entry-item.result c.loop-entry-test.true)

pub returns : goal.returns
returns c = pieces_all (entry_lines c.args.terms.max_pairs c.args.terms.report) _ _ c.args.entries.now c.loop-entry.entry-index c.loop-entry-test.false c.loop-entry.invariant
