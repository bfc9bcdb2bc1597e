use Rattle.std.proofs.Common.{◌≤◌, ◌-◌, length}
use Rattle.rl_numbers.proofs.ReachLaws.{IsSearching}
use Rattle.rl_numbers.proofs.reach.reached.Given as goal

abbrev pub invariant-loop-place : goal.invariant-loop-place
invariant-loop-place g l = record {
  few : length l.keys.keys ≤ l.limit;
  search : IsSearching (g.M.NextStates.next l.m) (g.M.NextStates.size l.m) l.starts l.limit l.place l.keys.keys;
}

abbrev pub decreases-loop-place : goal.decreases-loop-place
decreases-loop-place g l = l.limit - l.place
