use Rattle.rl_prio.proofs.WholeLemmas.{end_moves, no_accepting_moves, no_dead_moves}
use Rattle.rl_prio.proofs.laws.end_letter_ends.Goals as goal

pub returns-clause-ends : goal.returns-clause-ends
returns-clause-ends c = end_moves

pub returns-clause-accepted : goal.returns-clause-accepted
returns-clause-accepted c = no_accepting_moves

pub returns-clause-died : goal.returns-clause-died
returns-clause-died c = no_dead_moves
