use Rattle.std.proofs.Common.{◌≡◌, length}
use Rattle.rl_degree.specs.internal.Rows.{field_of, search_state_of, work_of, IsSearching}
use Rattle.rl_degree.proofs.SearchLaws.{IsFor}
use Rattle.rl_degree.proofs.searches.search_for.Given as goal

abbrev pub invariant-loop-found : goal.invariant-loop-found
invariant-loop-found l = record {
  searching : IsSearching (field_of l.g l.table l.part) (search_state_of l.search);
  asked : IsFor l.g l.table l.pair l.part (search_state_of l.search);
  keeps : l.search.keeps ≡ l.keeps;
  from : l.search.from ≡ l.from;
  to : l.search.to ≡ l.to;
  wide : length l.image ≡ l.g.states;
}

abbrev pub decreases-loop-found : goal.decreases-loop-found
decreases-loop-found l = work_of (search_state_of l.search)
