use Rattle.rl_pairs.proofs.CountLaws.{number-there, no-more-than-states}
use Rattle.rl_pairs.proofs.NumberLaws.{states-live, more-than-limit}
use Rattle.rl_pairs.proofs.laws.states_are_live_pairs.Goals as goal

pub returns-clause-live : goal.returns-clause-live
returns-clause-live c = states-live

pub returns-clause-numbered : goal.returns-clause-numbered
returns-clause-numbered c = number-there

pub returns-clause-more : goal.returns-clause-more
returns-clause-more c = more-than-limit

pub returns-clause-no_more : goal.returns-clause-no_more
returns-clause-no_more c = no-more-than-states
