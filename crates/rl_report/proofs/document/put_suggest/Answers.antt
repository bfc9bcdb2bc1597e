use Rattle.rl_report.proofs.document.put_suggest.Goals as goal

pub quoted_value-requires : goal.quoted_value-requires
quoted_value-requires c = rw c.in-Some.is at c.requires
