use Rattle.std.proofs.Common.{arith}
use Rattle.rl_numbers.proofs.InnerLaws.{inner-few}
use Rattle.rl_numbers.specs.Level.{table_of}
use Rattle.rl_numbers.proofs.leveling.level_graph.Goals as goal

pub returns-clause-level : goal.returns-clause-level
returns-clause-level c = record { states = c.in_ok-inner.ensures.same_states; kept = c.in_ok-inner.ensures.kept }

pub returns-clause-letters : goal.returns-clause-letters
returns-clause-letters c = c.in_ok-inner.ensures.same_letters

pub returns-clause-few : goal.returns-clause-few
returns-clause-few c = λ q l.
    omega (arith, inner-few c.args.g.now (table_of c.args.ranks.now) c.in_ok-inner.inner c.states-states.ensures.whole c.in_ok-inner.ensures q l, c.requires.few_states)
