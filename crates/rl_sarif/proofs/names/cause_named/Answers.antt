use Rattle.rl_sarif.proofs.names.cause_named.Goals as goal

pub returns : goal.returns
returns c = c.one_of.ensures
