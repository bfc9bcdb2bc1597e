use Rattle.std.proofs.Common.{◌≡◌, ℕ, length, get_or, slice_get, Some, []}
use Rattle.rl_syntax.specs.Tree.{tree_of}
use Rattle.rl_growth.specs.Routes.{split_at}
use Rattle.rl_why.specs.Readings.{SplitReading, AreSplitWays}
use Rattle.rl_why.specs.internal.Settings.{place_of}
use Rattle.rl_why.proofs.reading.split_readings.Given as goal

abbrev pub invariant-loop-k : goal.invariant-loop-k
invariant-loop-k l =
    record {
      count : length l.readings ≡ l.k;
      right : (j : ℕ) (r : SplitReading) → slice_get l.readings j ≡ Some r → AreSplitWays (tree_of l.tree) l.sources.nodes (get_or l.pumps j [])
          (place_of (tree_of l.tree) l.a l.g (split_at l.splits j).from) (place_of (tree_of l.tree) l.a l.g (split_at l.splits j).to) r;
    }
