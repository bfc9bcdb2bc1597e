-- The pieces so far reach the place, and each open bracket comes before it.
use Rattle.std.proofs.Common.{length, ◌-◌, ◌≤◌}
use Rattle.rl_pylex.specs.Source.{Reaches}
use Rattle.rl_pylex.proofs.lex.read_pieces.Given as goal

abbrev pub invariant-loop-at : goal.invariant-loop-at
invariant-loop-at l =
    Reaches l.source l.at l.depth l.tokens × (l.at ≤ length l.source) × (l.depth ≤ l.at)

abbrev pub decreases-loop-at : goal.decreases-loop-at
decreases-loop-at l = length l.initial.source - l.at
