use Rattle.rl_numbers.proofs.FoundLaws.{found_holds, found_more}
use Rattle.rl_numbers.proofs.laws.found_triples_decide.Goals as goal

pub returns-clause-holds : goal.returns-clause-holds
returns-clause-holds c next rank g starts level within sound all keys parts is-whole some none reach inside is-parts = found_holds next rank g starts level within sound all keys parts is-whole (λ _. some) none reach inside is-parts

pub returns-clause-more : goal.returns-clause-more
returns-clause-more c next rank g starts level within sound all m h = found_more next rank g starts level within sound all m h
