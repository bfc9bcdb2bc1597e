use Rattle.rl_report.proofs.document.put_suggestion.Goals as goal

pub put_suggest-requires : goal.put_suggest-requires
put_suggest-requires c = rw c.in-Some.is at c.requires
