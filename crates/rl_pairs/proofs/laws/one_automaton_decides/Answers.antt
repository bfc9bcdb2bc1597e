use Rattle.rl_pairs.proofs.SameLaws.{pairs-passed, sets-passed}
use Rattle.rl_pairs.proofs.VerdictLaws.{pairs-within}
use Rattle.rl_pairs.proofs.laws.one_automaton_decides.Goals as goal

pub returns-clause-pairs : goal.returns-clause-pairs
returns-clause-pairs c = pairs-passed

pub returns-clause-sets : goal.returns-clause-sets
returns-clause-sets c = sets-passed

pub returns-clause-graph : goal.returns-clause-graph
returns-clause-graph c = pairs-within
