use Rattle.rl_degree.proofs.chains.degree_over.Goals as goal

pub returns-clause-links : goal.returns-clause-links
returns-clause-links c = c.in_ok-chain.ensures.chain.chained

pub returns-clause-states : goal.returns-clause-states
returns-clause-states c = c.in_ok-chain.ensures.chain.states

pub returns-clause-longest : goal.returns-clause-longest
returns-clause-longest c = c.in_ok-chain.ensures.chain.longest

pub returns-clause-ranks : goal.returns-clause-ranks
returns-clause-ranks c = c.in_ok-chain.ensures.ranks

pub returns-clause-cycle : goal.returns-clause-cycle
returns-clause-cycle c = c.in_ok-chain.ensures.cycle

pub returns-clause-no_cycle : goal.returns-clause-no_cycle
returns-clause-no_cycle c = c.in_ok-chain.ensures.no_cycle
