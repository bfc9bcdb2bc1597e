use Rattle.rl_pairs.proofs.VerdictLaws.{few-live, few-states, graph-within, graph-bounded}
use Rattle.rl_pairs.proofs.laws.live_pairs_are_few.Goals as goal

pub returns-clause-pairs : goal.returns-clause-pairs
returns-clause-pairs c = few-live

pub returns-clause-states : goal.returns-clause-states
returns-clause-states c = few-states

pub returns-clause-within : goal.returns-clause-within
returns-clause-within c = graph-within

pub returns-clause-bounded : goal.returns-clause-bounded
returns-clause-bounded c = graph-bounded
