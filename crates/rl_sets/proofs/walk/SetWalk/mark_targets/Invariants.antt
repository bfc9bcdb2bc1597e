use Rattle.std.proofs.Common.{◌≡◌, replicate, false}
use Rattle.rl_sets.proofs.walk.SetWalk.mark_targets.Given as goal

abbrev pub invariant-loop-moves : goal.invariant-loop-moves
invariant-loop-moves l = l.row ≡ replicate l.a.states false
