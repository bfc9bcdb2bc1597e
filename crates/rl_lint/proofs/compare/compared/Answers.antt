use Rattle.rl_lint.proofs.compare.compared.Goals as goal

pub lowered-requires : goal.lowered-requires
lowered-requires c = c.requires.first_of_text

pub lowered-requires-2 : goal.lowered-requires-2
lowered-requires-2 c = c.requires.second_of_text

pub compare-requires-clause-first_inside : goal.compare-requires-clause-first_inside
compare-requires-clause-first_inside c = c.in_ok-first.ensures.over

pub compare-requires-clause-second_inside : goal.compare-requires-clause-second_inside
compare-requires-clause-second_inside c = c.in-Ok.ensures.over
