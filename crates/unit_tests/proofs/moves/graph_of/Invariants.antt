use Rattle.std.proofs.Common.{◌≡◌}
use Rattle.unit_tests.proofs.moves.graph_of.Given as goal

abbrev pub invariant-loop-turn : goal.invariant-loop-turn
invariant-loop-turn l = (l.graph.states ≡ l.states) × (l.graph.letters ≡ 1)

abbrev pub invariant-loop-from : goal.invariant-loop-from
invariant-loop-from l = (l.graph.states ≡ l.states) × (l.graph.letters ≡ 1)
