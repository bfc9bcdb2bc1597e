use Rattle.rl_trim.proofs.twins.has_twin.Given as goal

abbrev pub invariant-loop-rival : goal.invariant-loop-rival
invariant-loop-rival l = (goal.iterator-loop-rival).can_next l.rival-iterator × (goal.iterator-loop-rival).is_finite l.rival-iterator
