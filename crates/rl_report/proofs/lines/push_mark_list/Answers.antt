use Rattle.rl_report.specs.Layouts.{mark_line}
use Rattle.rl_report.proofs.LineLemmas.{piece_more, pieces_all}
use Rattle.rl_report.proofs.lines.push_mark_list.Goals as goal

pub loop-mark-preserved : goal.loop-mark-preserved
loop-mark-preserved c =
    piece_more (mark_line c.args.word.now) _ _ _ c.args.marks.now c.loop-mark.mark-index c.mark-item.result c.loop-mark-test.true c.mark-item.is
    c.loop-mark.invariant c.in_ok-push_mark.ensures

pub returns : goal.returns
returns c = pieces_all (mark_line c.args.word.now) _ _ c.args.marks.now c.loop-mark.mark-index c.loop-mark-test.false c.loop-mark.invariant
