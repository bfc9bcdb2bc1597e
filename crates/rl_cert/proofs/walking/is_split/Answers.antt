use Rattle.rl_cert.proofs.walking.is_split.Goals as goal

pub leads-requires-clause-letters : goal.leads-requires-clause-letters
leads-requires-clause-letters c = c.requires.letters

pub leads-requires-2-clause-letters : goal.leads-requires-2-clause-letters
leads-requires-2-clause-letters c = c.requires.letters

pub leads-requires-3-clause-letters : goal.leads-requires-3-clause-letters
leads-requires-3-clause-letters c = c.requires.letters

pub leads-requires-clause-from_in : goal.leads-requires-clause-from_in
leads-requires-clause-from_in c = c.requires.from_in

pub leads-requires-2-clause-from_in : goal.leads-requires-2-clause-from_in
leads-requires-2-clause-from_in c = c.requires.from_in

pub leads-requires-3-clause-from_in : goal.leads-requires-3-clause-from_in
leads-requires-3-clause-from_in c = c.requires.to_in
