use Rattle.rl_report.proofs.lines.push_suggestion.Goals as goal

pub push_suggest-requires : goal.push_suggest-requires
push_suggest-requires c = rw c.in-Some.is at c.requires
