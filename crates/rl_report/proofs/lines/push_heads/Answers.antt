use Rattle.rl_report.specs.Layouts.{head_line}
use Rattle.rl_report.proofs.LineLemmas.{piece_more, pieces_all}
use Rattle.rl_report.proofs.lines.push_heads.Goals as goal

pub loop-entry-preserved : goal.loop-entry-preserved
loop-entry-preserved c =
    piece_more (head_line c.args.max_pairs) _ _ _ c.args.entries.now c.loop-entry.entry-index c.entry-item.result c.loop-entry-test.true c.entry-item.is
    c.loop-entry.invariant c.in_ok-push_head.ensures

pub returns : goal.returns
returns c = pieces_all (head_line c.args.max_pairs) _ _ c.args.entries.now c.loop-entry.entry-index c.loop-entry-test.false c.loop-entry.invariant
