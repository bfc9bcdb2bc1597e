use Rattle.rl_cert.proofs.checking.shows_way.Goals as goal

pub is_way-requires-clause-some : goal.is_way-requires-clause-some
is_way-requires-clause-some c = c.requires.some

pub is_way-requires-clause-letters : goal.is_way-requires-clause-letters
is_way-requires-clause-letters c = c.requires.letters
