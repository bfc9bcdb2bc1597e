use Rattle.rl_report.proofs.document.report_value.Goals as goal

pub entries_value-requires : goal.entries_value-requires
entries_value-requires c = c.requires
