use Rattle.rl_reach.proofs.Growth.{exact, all, power}
use Rattle.rl_reach.proofs.laws.search_is_a_match_from_each_place.Goals as goal

pub returns-clause-exact : goal.returns-clause-exact
returns-clause-exact c = exact

pub returns-clause-all : goal.returns-clause-all
returns-clause-all c = all

pub returns-clause-power : goal.returns-clause-power
returns-clause-power c = power
