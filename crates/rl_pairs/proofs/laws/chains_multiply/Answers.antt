use Rattle.rl_pairs.proofs.CostLaws.{chain_words, chain_reads, chain_spells, chain_family}
use Rattle.rl_pairs.proofs.laws.chains_multiply.Goals as goal

pub returns-clause-words : goal.returns-clause-words
returns-clause-words c = chain_words

pub returns-clause-texts : goal.returns-clause-texts
returns-clause-texts c = λ a t ending next at n whole stands g. chain_reads a t ending next at n whole stands g

pub returns-clause-samples : goal.returns-clause-samples
returns-clause-samples c = λ a t ending next at n whole stands g. chain_spells a t ending next at n whole stands g

pub returns-clause-family : goal.returns-clause-family
returns-clause-family c = λ a t ending next at n whole stands g. chain_family a t ending next at n whole stands g
