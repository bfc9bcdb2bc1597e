use Rattle.rl_cert.proofs.walking.end_holds.Goals as goal

pub refuses-requires-clause-letters : goal.refuses-requires-clause-letters
refuses-requires-clause-letters c = c.requires.last
