use Rattle.rl_cert.proofs.checking.shown.Goals as goal

pub shows_degree-requires-clause-some : goal.shows_degree-requires-clause-some
shows_degree-requires-clause-some c = c.requires.some

pub shows_degree-requires-clause-letters : goal.shows_degree-requires-clause-letters
shows_degree-requires-clause-letters c = c.requires.letters

pub shows_expo-requires-clause-letters : goal.shows_expo-requires-clause-letters
shows_expo-requires-clause-letters c = c.requires.letters
