use Rattle.rl_prio.proofs.KindLemmas.{few_kinds, kinds_of_letters, one_kind, size-measure, measure-size, few_states}
use Rattle.rl_prio.proofs.WholeLemmas.{states-few}
use Rattle.rl_prio.proofs.laws.states_are_few.Goals as goal

pub returns-clause-kinds : goal.returns-clause-kinds
returns-clause-kinds c = few_kinds

pub returns-clause-kinds_of_letters : goal.returns-clause-kinds_of_letters
returns-clause-kinds_of_letters c = kinds_of_letters

pub returns-clause-one_kind : goal.returns-clause-one_kind
returns-clause-one_kind c = one_kind

pub returns-clause-size : goal.returns-clause-size
returns-clause-size c = size-measure

pub returns-clause-same_size : goal.returns-clause-same_size
returns-clause-same_size c = measure-size

pub returns-clause-counted : goal.returns-clause-counted
returns-clause-counted c = few_states

pub returns-clause-states : goal.returns-clause-states
returns-clause-states c = states-few
