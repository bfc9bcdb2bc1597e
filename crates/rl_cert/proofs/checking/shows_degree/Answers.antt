use Rattle.rl_cert.proofs.checking.shows_degree.Goals as goal

pub shows_way-requires-clause-some : goal.shows_way-requires-clause-some
shows_way-requires-clause-some c = c.requires.some

pub shows_way-requires-clause-letters : goal.shows_way-requires-clause-letters
shows_way-requires-clause-letters c = c.requires.letters

pub shows_way-requires-clause-heads : goal.shows_way-requires-clause-heads
shows_way-requires-clause-heads c = c.requires.heads

pub shows_way-requires-clause-pumps : goal.shows_way-requires-clause-pumps
shows_way-requires-clause-pumps c = c.requires.pumps
