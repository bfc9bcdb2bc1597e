use Rattle.std.proofs.Common.{sym, subst}
use Rattle.std.specs.List.{All}
use Rattle.rl_ranges.specs.Text.{IsText}
use Rattle.rl_report.proofs.verdicts.push_family.Goals as goal

pub push_parts-requires : goal.push_parts-requires
push_parts-requires c = record {
  heads = subst (All (IsText c.args.universe)) (sym c.as_slice.ensures) c.requires.0;
  pumps = subst (All (IsText c.args.universe)) (sym c.as_slice-2.ensures) c.requires.1;
}
