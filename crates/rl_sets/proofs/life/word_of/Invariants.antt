use Rattle.std.proofs.Common.{◌≡◌, ◌++◌, ℕ, List}
use Rattle.rl_sets.specs.Rests.{Routed}
use Rattle.rl_sets.proofs.life.word_of.Given as goal

abbrev pub invariant-loop-at : goal.invariant-loop-at
invariant-loop-at l =
    ((v : List ℕ) × Routed l.end l.routes l.at v) × ((word : List ℕ) → Routed l.end l.routes l.route word → (v : List ℕ) × Routed l.end l.routes l.at v × (word ≡ l.word ++ v))

abbrev pub decreases-loop-at : goal.decreases-loop-at
decreases-loop-at l = l.at
