use Rattle.rl_machine.proofs.columns.Columns.put.Goals as goal

pub returns-clause-in_front : goal.returns-clause-in_front
returns-clause-in_front c letters stand =
    rw (c.swap.ensures.x_after) (c.put_letter.ensures.in_front letters (rw (c.deref.ensures.value, c.self.view_is) stand))
