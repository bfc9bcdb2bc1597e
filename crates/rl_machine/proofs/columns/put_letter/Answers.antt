use Rattle.rl_machine.proofs.ColumnLaws.{one_more, whole}
use Rattle.rl_machine.proofs.columns.put_letter.Goals as goal

pub loop-state-preserved : goal.loop-state-preserved
loop-state-preserved c =
    one_more _ _ _ _ _ _ c.requires.made_for (rw (← c.states-state-end.ensures.count) c.loop-state-test.true)
    (λ next shows. rw (← c.moves.ensures.moves, ← c.accepting-accepting.ensures.state) (c.all_steps.ensures next shows))
    c.loop-state.invariant

pub returns-clause-in_front : goal.returns-clause-in_front
returns-clause-in_front c letters stand =
    whole _ _ _ _ _ (rw (← c.states-state-end.ensures.count) c.loop-state-test.false) c.loop-state.invariant letters stand
