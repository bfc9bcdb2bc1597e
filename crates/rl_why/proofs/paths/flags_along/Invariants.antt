use Rattle.std.proofs.Common.{◌≡◌, ℕ, ◌+◌, ◌-◌, ◌≤◌, length, get_or, []}
use Rattle.std.proofs.Math.ListN.{drop}
use Rattle.rl_graph.specs.Graph.{edges_of}
use Rattle.rl_why.specs.internal.Paths.{is_led, AreFlags}
use Rattle.rl_why.proofs.paths.flags_along.Given as goal

abbrev pub invariant-loop-k : goal.invariant-loop-k
invariant-loop-k l =
    record {
      size : length l.layers ≡ l.k + 1;
      right : (j : ℕ) → j ≤ l.k → AreFlags l.g.states (is_led (edges_of l.g) l.to (drop (length l.word - j) l.word)) (get_or l.layers j []);
    }
