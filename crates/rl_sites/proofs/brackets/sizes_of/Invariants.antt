-- The table for the tokens so far, counted from the end.
use Rattle.std.proofs.Common.{◌≡◌, ◌≤◌, ◌+◌, length, drop}
use Rattle.rl_sites.specs.internal.Walks.{IsTable}
use Rattle.rl_sites.proofs.brackets.sizes_of.Given as goal

abbrev pub invariant-loop-left : goal.invariant-loop-left
invariant-loop-left l = record {
  within : l.left ≤ length l.tokens;
  size : length l.sizes.items + l.left ≡ length l.tokens + 1;
  table : IsTable l.source (drop l.left l.tokens) l.sizes.items;
}

abbrev pub decreases-loop-left : goal.decreases-loop-left
decreases-loop-left l = l.left
