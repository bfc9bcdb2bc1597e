use Rattle.rl_prio.proofs.WalkLemmas.{walk_cost-cost, walk-matched, walk-run_over, walk_cost-cost_over, walk-matched_over}
use Rattle.rl_prio.proofs.laws.walk_is_run.Goals as goal

pub returns-clause-costs : goal.returns-clause-costs
returns-clause-costs c = walk_cost-cost

pub returns-clause-matches : goal.returns-clause-matches
returns-clause-matches c = walk-matched

pub returns-clause-steps_over : goal.returns-clause-steps_over
returns-clause-steps_over c = walk-run_over

pub returns-clause-costs_over : goal.returns-clause-costs_over
returns-clause-costs_over c = walk_cost-cost_over

pub returns-clause-matches_over : goal.returns-clause-matches_over
returns-clause-matches_over c = walk-matched_over
