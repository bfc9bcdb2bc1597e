use Rattle.rl_report.proofs.lines.push_entry.Goals as goal

pub push_details-requires : goal.push_details-requires
push_details-requires c = c.requires
