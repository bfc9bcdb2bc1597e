use Rattle.std.proofs.Common.{◌<◌, ℕ}
use Rattle.rl_graph.specs.internal.InnerMoves.{HasInnerOn}
use Rattle.rl_graph.proofs.parts.has_inner.Given as goal

abbrev pub invariant-loop-letter : goal.invariant-loop-letter
invariant-loop-letter g l =
    (k : ℕ) → k < l.letter → HasInnerOn (g.M.NextStates.next l.m) l.numbers l.state k → ⊥
