use Rattle.rl_cert.proofs.making.numbers_of.Goals as goal

pub triples_of-requires-clause-few_states : goal.triples_of-requires-clause-few_states
triples_of-requires-clause-few_states c = c.requires.few_states

pub triples_of-requires-clause-size : goal.triples_of-requires-clause-size
triples_of-requires-clause-size c = c.requires.size

pub triples_of-requires-clause-no_split : goal.triples_of-requires-clause-no_split
triples_of-requires-clause-no_split c = c.requires.no_split

pub doubles_of-requires-clause-few_states : goal.doubles_of-requires-clause-few_states
doubles_of-requires-clause-few_states c = c.requires.few_states

pub doubles_of-requires-clause-no_twin : goal.doubles_of-requires-clause-no_twin
doubles_of-requires-clause-no_twin c = c.requires.no_twin

pub returns-clause-doubles : goal.returns-clause-doubles
returns-clause-doubles c = c.in_ok-doubles.ensures

pub returns-clause-triples : goal.returns-clause-triples
returns-clause-triples c = c.in-Ok.ensures.triples

pub returns-clause-few : goal.returns-clause-few
returns-clause-few c = c.in-Ok.ensures.few
