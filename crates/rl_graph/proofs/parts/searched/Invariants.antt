use Rattle.std.proofs.Common.{◌≡◌, ◌<◌, ℕ, []}
use Rattle.rl_graph.specs.declared.parts.SearchPlace.TheVariants.{Unseen}
use Rattle.rl_graph.specs.internal.Search.{search_state_of, place_of, IsSearch}
use Rattle.rl_graph.proofs.parts.searched.Given as goal

abbrev pub invariant-loop-root : goal.invariant-loop-root
invariant-loop-root g l =
    IsSearch (g.M.NextStates.next l.m) (g.M.NextStates.size l.m) (search_state_of l.search) × ((search_state_of l.search).frames ≡ []) × ((q : ℕ) → q < l.root → place_of (search_state_of l.search) q ≡ Unseen → ⊥)
