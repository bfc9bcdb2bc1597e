use Rattle.rl_report.proofs.lines.push_suggest.Goals as goal

pub push_quoted-requires : goal.push_quoted-requires
push_quoted-requires c = rw c.in-Some.is at c.requires
