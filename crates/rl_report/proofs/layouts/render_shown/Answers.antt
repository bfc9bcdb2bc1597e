use Rattle.std.proofs.Common.{sym, subst}
use Rattle.std.specs.List.{All}
use Rattle.rl_report.specs.Layouts.{IsOfItsUniverse}
use Rattle.rl_report.proofs.layouts.render_shown.Goals as goal

pub text_report-requires : goal.text_report-requires
text_report-requires c = subst (All IsOfItsUniverse) (sym c.as_slice-entries.ensures) c.requires.universe

pub json_report-requires : goal.json_report-requires
json_report-requires c = subst (All IsOfItsUniverse) (sym c.as_slice-entries.ensures) c.requires.universe
