use Rattle.std.proofs.Common.{◌≡◌, ◌+◌, ◌-◌, ◌<◌, ◌≤◌, ℕ, [], length, get_or}
use Rattle.rl_graph.proofs.row_list.make_places.Given as goal

abbrev pub invariant-loop-alloc : goal.invariant-loop-alloc
invariant-loop-alloc l = record {
  same : (k : ℕ) → get_or l.apart.items k [] ≡ get_or l.fn.apart.items k [];
  few : (count : ℕ) → l.place < count → length l.fn.apart.items ≤ count → length l.apart.items ≤ count;
}

abbrev pub decreases-loop-alloc : goal.decreases-loop-alloc
decreases-loop-alloc l = l.place + 1 - length l.apart.items
