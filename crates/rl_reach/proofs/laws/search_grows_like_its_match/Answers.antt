use Rattle.rl_reach.proofs.Growth.{exponential, degree, bounded, bounded-behind}
use Rattle.rl_reach.proofs.laws.search_grows_like_its_match.Goals as goal

pub returns-clause-exponential : goal.returns-clause-exponential
returns-clause-exponential c = exponential

pub returns-clause-degree : goal.returns-clause-degree
returns-clause-degree c = degree

pub returns-clause-bounded : goal.returns-clause-bounded
returns-clause-bounded c = bounded

pub returns-clause-behind : goal.returns-clause-behind
returns-clause-behind c = bounded-behind
