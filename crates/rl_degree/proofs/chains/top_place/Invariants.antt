use Rattle.std.proofs.Common.{ℕ, ◌<◌, ◌≤◌, length, get_or}
use Rattle.rl_degree.proofs.chains.top_place.Given as goal

abbrev pub invariant-loop-place : goal.invariant-loop-place
invariant-loop-place l = record {
  place_in : l.top < length l.ranks;
  greatest : (q : ℕ) → q < l.place → get_or l.ranks q 0 ≤ get_or l.ranks l.top 0;
}
