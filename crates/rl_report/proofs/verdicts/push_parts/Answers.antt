use Rattle.std.proofs.Common.{◌≡◌, ◌-◌, length, take, drop, sym, subst, arith}
use Rattle.std.specs.List.{All}
use Rattle.std.proofs.lemmas.List.{length-drop, take_all}
use Rattle.std.proofs.lemmas.List.Elements.{All-drop}
use Rattle.rl_ranges.specs.Text.{IsText}
use Rattle.rl_report.proofs.verdicts.push_parts.Goals as goal

pub push_part-requires : goal.push_part-requires
push_part-requires c =
    subst (IsText c.args.universe) (sym c.head-item.is) (c.requires.heads 0 c.head-item.result (omega (arith, c.in-len1-up.len_at_least)))

pub push_later_parts-requires : goal.push_later_parts-requires
push_later_parts-requires c =
    let heads = c.args.heads.now in
    let all : take (length heads - 1) (drop 1 heads) ≡ drop 1 heads = take_all (length heads - 1) (drop 1 heads) (omega (arith, length-drop 1 heads)) in
    record {
      pumps = c.requires.pumps;
      heads = subst (All (IsText c.args.universe)) (sym all) (All-drop (IsText c.args.universe) 1 heads c.requires.heads);
    }
