use Rattle.std.proofs.Common.{sym, subst}
use Rattle.std.specs.List.{All}
use Rattle.rl_ranges.specs.Text.{IsText}
use Rattle.rl_ask.proofs.document.family_value.Goals as goal

pub put_texts-requires : goal.put_texts-requires
put_texts-requires c = subst (All (IsText c.args.universe)) (sym c.as_slice-heads.ensures) c.requires.0

pub put_texts-requires-2 : goal.put_texts-requires-2
put_texts-requires-2 c = subst (All (IsText c.args.universe)) (sym c.as_slice-pumps.ensures) c.requires.1
