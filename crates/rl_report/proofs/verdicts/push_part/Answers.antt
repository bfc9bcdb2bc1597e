use Rattle.rl_report.proofs.verdicts.push_part.Goals as goal

pub push_quoted-requires : goal.push_quoted-requires
push_quoted-requires c = c.requires
