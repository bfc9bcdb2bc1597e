use Rattle.rl_machine.proofs.columns.Columns.advance.Goals as goal

pub returns-clause-in_front : goal.returns-clause-in_front
returns-clause-in_front c letters stand = c.put.ensures.in_front _ stand
