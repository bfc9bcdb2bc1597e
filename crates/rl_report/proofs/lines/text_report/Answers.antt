use Rattle.rl_report.proofs.lines.text_report.Goals as goal

pub push_entries-requires : goal.push_entries-requires
push_entries-requires c = c.requires
