use Rattle.rl_report.proofs.pieces.push_quoted.Goals as goal

pub quote-requires : goal.quote-requires
quote-requires c = c.requires
