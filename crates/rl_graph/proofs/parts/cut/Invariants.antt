use Rattle.std.proofs.Common.{◌≡◌, ℕ, ◌<◌, List, ◌++◌, length}
use Rattle.rl_graph.specs.Paths.{Has}
use Rattle.rl_graph.proofs.parts.cut.Given as goal

-- What was taken off so far.
abbrev pub invariant-loop-mark : goal.invariant-loop-mark
invariant-loop-mark l =
    (off : List ℕ) × (l.initial.marks.items ≡ l.marks.items ++ off) × ((x : ℕ) → Has x off → l.depth < x)

abbrev pub decreases-loop-mark : goal.decreases-loop-mark
decreases-loop-mark l = length l.marks.items
