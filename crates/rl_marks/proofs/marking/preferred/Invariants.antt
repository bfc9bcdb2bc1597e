use Rattle.std.proofs.Common.{◌≡◌, [], ◌∷◌, ◌++◌, map, vec_len}
use Rattle.rl_marks.specs.Marked.{marked_of}
use Rattle.rl_marks.specs.Marking.{one_of}
use Rattle.rl_marks.proofs.marking.preferred.Given as goal

abbrev pub invariant-loop-first : goal.invariant-loop-first
invariant-loop-first l = one_of (map marked_of l.left.items ++ marked_of l.whole ∷ []) ≡ one_of (map marked_of l.fn.trees)

abbrev pub decreases-loop-first : goal.decreases-loop-first
decreases-loop-first l = vec_len l.left
