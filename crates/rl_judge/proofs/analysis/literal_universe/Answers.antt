use Rattle.rl_judge.proofs.analysis.literal_universe.Goals as goal

pub value-requires-clause-run : goal.value-requires-clause-run
value-requires-clause-run c = c.requires.run.run
