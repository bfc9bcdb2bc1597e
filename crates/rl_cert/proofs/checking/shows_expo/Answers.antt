use Rattle.rl_cert.proofs.checking.shows_expo.Goals as goal

pub is_twin_way-requires-clause-letters : goal.is_twin_way-requires-clause-letters
is_twin_way-requires-clause-letters c = c.requires.letters
