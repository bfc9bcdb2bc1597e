use Rattle.rl_cert.proofs.walking.link_holds.Goals as goal

pub leads-requires-clause-letters : goal.leads-requires-clause-letters
leads-requires-clause-letters c = c.requires.head

pub leads-requires-clause-from_in : goal.leads-requires-clause-from_in
leads-requires-clause-from_in c = c.requires.from_in

pub is_split-requires-clause-letters : goal.is_split-requires-clause-letters
is_split-requires-clause-letters c = c.requires.pump
