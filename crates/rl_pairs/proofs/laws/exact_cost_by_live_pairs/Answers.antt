use Rattle.rl_pairs.proofs.CostLaws.{words_exact, texts_exact}
use Rattle.rl_pairs.proofs.laws.exact_cost_by_live_pairs.Goals as goal

pub returns-clause-words : goal.returns-clause-words
returns-clause-words c = words_exact

pub returns-clause-texts : goal.returns-clause-texts
returns-clause-texts c = texts_exact
