use Rattle.rl_reach.proofs.Growth.{least, same, more}
use Rattle.rl_reach.proofs.laws.search_costs_its_match.Goals as goal

pub returns-clause-least : goal.returns-clause-least
returns-clause-least c = least

pub returns-clause-same : goal.returns-clause-same
returns-clause-same c = same

pub returns-clause-more : goal.returns-clause-more
returns-clause-more c = more
