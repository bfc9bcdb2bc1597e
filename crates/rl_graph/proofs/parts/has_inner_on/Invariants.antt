use Rattle.std.proofs.Common.{◌≡◌, ◌<◌, ℕ, get_or}
use Rattle.rl_graph.proofs.parts.has_inner_on.Given as goal

abbrev pub invariant-loop-number : goal.invariant-loop-number
invariant-loop-number g l =
    (i : ℕ) → i < l.number → get_or l.numbers (get_or (g.M.NextStates.next l.m l.state l.letter) i 0) 0 ≡ get_or l.numbers l.state 0 → ⊥
