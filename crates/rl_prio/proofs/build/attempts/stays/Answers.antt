use Rattle.std.proofs.Common.{sym, ◌∙◌}
use Rattle.rl_prio.proofs.AttemptLemmas.{tests_stay}
use Rattle.rl_prio.proofs.build.attempts.stays.Goals as goal

pub returns-then-attempts-le-MOST_MOVES-clause-same : goal.returns-then-attempts-le-MOST_MOVES-clause-same
returns-then-attempts-le-MOST_MOVES-clause-same c = λ e further. tests_stay c.args.attempts.now further (sym c.are_tests.ensures ∙ e)
