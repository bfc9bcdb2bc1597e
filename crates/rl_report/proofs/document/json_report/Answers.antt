use Rattle.rl_report.proofs.NoFloats.{plain_report}
use Rattle.rl_report.proofs.document.json_report.Goals as goal

pub report_value-requires : goal.report_value-requires
report_value-requires c = c.requires

pub line_of-requires : goal.line_of-requires
line_of-requires c = plain_report _ c.args.terms.max_degree c.args.terms.max_pairs c.args.terms.report c.args.entries.now c.in_ok-value.ensures
