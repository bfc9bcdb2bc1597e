use Rattle.rl_report.proofs.document.entry_value.Goals as goal

pub put_judged-requires : goal.put_judged-requires
put_judged-requires c = c.requires
