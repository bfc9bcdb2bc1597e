use Rattle.rl_trim.proofs.word.trace.Given as goal

abbrev pub decreases-loop-at : goal.decreases-loop-at
decreases-loop-at l = l.at
