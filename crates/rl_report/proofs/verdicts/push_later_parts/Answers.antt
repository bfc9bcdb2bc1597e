use Rattle.std.proofs.Common.{◌<◌, ◌≤◌, min, length, sym, subst, arith}
use Rattle.rl_ranges.specs.Text.{IsText}
use Rattle.rl_report.proofs.FamilyLemmas.{part_more, part_end}
use Rattle.rl_report.proofs.verdicts.push_later_parts.Goals as goal

pub push_part-requires : goal.push_part-requires
push_part-requires c =
    subst (IsText c.args.universe) (sym c.index-pumps-index.is)
    (c.requires.pumps c.loop-index.index c.index-pumps-index.result (omega (arith, c.min-index-end.ensures, c.loop-index-test.true)))

pub loop-index-preserved : goal.loop-index-preserved
loop-index-preserved c =
    let pumps = c.args.pumps.now in
    let heads = c.args.heads.now in
    let at = c.loop-index.index in
    let pump_there : at < length pumps = omega (arith, c.min-index-end.ensures, c.loop-index-test.true) in
    let head_there : at < length heads = omega (arith, c.min-index-end.ensures, c.loop-index-test.true) in
    part_more c.args.universe _ _ _ _ pumps heads at c.index-pumps-index.result c.index-heads-index.result pump_there head_there c.index-pumps-index.is
    c.index-heads-index.is c.loop-index.invariant c.in_ok-push_part.ensures c.in_ok-push_part-2.ensures

pub returns : goal.returns
returns c =
    let past : min (length c.args.pumps.now) (length c.args.heads.now) ≤ c.loop-index.index = omega (arith, c.min-index-end.ensures) in
    part_end _ _ _ _ _ c.loop-index.index past c.loop-index.invariant
