use Rattle.rl_degree.proofs.searches.split_word.Goals as goal

pub word_to-requires-clause-rooted : goal.word_to-requires-clause-rooted
word_to-requires-clause-rooted c = let h = rw c.in-Some-2.is at c.in_ok-goal-in-Some.ensures.steps in h.rooted

pub word_to-requires-clause-step_in : goal.word_to-requires-clause-step_in
word_to-requires-clause-step_in c = let h = rw c.in-Some-2.is at c.in_ok-goal-in-Some.ensures.steps in h.step_in
