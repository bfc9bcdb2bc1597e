use Rattle.rl_cert.proofs.walking.is_twin_way.Goals as goal

pub twin_holds-requires-clause-letters : goal.twin_holds-requires-clause-letters
twin_holds-requires-clause-letters c = c.requires.letters
