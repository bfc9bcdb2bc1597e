use Rattle.std.proofs.Common.{arith}
use Rattle.rl_numbers.proofs.InnerLaws.{inner-done}
use Rattle.rl_numbers.specs.Level.{table_of}
use Rattle.rl_numbers.proofs.leveling.inner_graph.Goals as goal

pub returns : goal.returns
returns c =
    inner-done c.args.g.now (table_of c.args.ranks.now) c.loop-state.state c.loop-state.inner (omega (arith, c.loop-state-test.false, c.states-state-end.ensures.number)) c.loop-state.invariant.so_far

pub add_level_from-requires-clause-state_in : goal.add_level_from-requires-clause-state_in
add_level_from-requires-clause-state_in c = omega (arith, c.loop-state-test.true, c.states-state-end.ensures.number)

pub add_level_from-requires-clause-size : goal.add_level_from-requires-clause-size
add_level_from-requires-clause-size c = c.requires

pub add_level_from-requires-clause-so_far : goal.add_level_from-requires-clause-so_far
add_level_from-requires-clause-so_far c = c.loop-state.invariant.so_far

pub add_level_from-requires-clause-bare : goal.add_level_from-requires-clause-bare
add_level_from-requires-clause-bare c = c.loop-state.invariant.bare

pub loop-state-preserved : goal.loop-state-preserved
loop-state-preserved c = record { so_far = c.in-Ok.ensures.so_far; bare = c.in-Ok.ensures.bare }
