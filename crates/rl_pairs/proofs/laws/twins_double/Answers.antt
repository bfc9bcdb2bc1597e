use Rattle.rl_pairs.proofs.CostLaws.{twin_words, twin_reads, twin_spells, twin_family}
use Rattle.rl_pairs.proofs.laws.twins_double.Goals as goal

pub returns-clause-words : goal.returns-clause-words
returns-clause-words c = twin_words

pub returns-clause-texts : goal.returns-clause-texts
returns-clause-texts c = λ a t ending next at n whole stands g. twin_reads a t ending next at n whole stands g

pub returns-clause-samples : goal.returns-clause-samples
returns-clause-samples c = λ a t ending next at n whole stands g. twin_spells a t ending next at n whole stands g

pub returns-clause-family : goal.returns-clause-family
returns-clause-family c = λ a t ending next at n whole stands g. twin_family a t ending next at n whole stands g
