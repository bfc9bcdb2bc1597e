use Rattle.std.proofs.Common.{◌≡◌, ℕ, length, get_or}
use Rattle.rl_graph.specs.declared.parts.SearchPlace.TheVariants.{Unseen}
use Rattle.rl_graph.specs.internal.Search.{closed_below}
use Rattle.rl_graph.proofs.parts.PartSearch.close.Given as goal

abbrev pub invariant-loop-depth : goal.invariant-loop-depth
invariant-loop-depth l =
    (length l.self.places.items ≡ length l.initial.self.places.items) × ((q : ℕ) → get_or l.self.places.items q Unseen ≡ closed_below l.from l.depth l.part (get_or l.initial.self.places.items q Unseen)) × (l.self.open_states.items ≡ l.initial.self.open_states.items) × (l.self.marks.items ≡ l.initial.self.marks.items) × (l.self.frames.items ≡ l.initial.self.frames.items) × (l.self.parts ≡ l.initial.self.parts)
