use Rattle.std.proofs.Common.{◌≡◌, ℕ, ◌<◌, ◌++◌}
use Rattle.std.proofs.Math.ListN.{drop}
use Rattle.rl_graph.specs.Paths.{IsPath}
use Rattle.rl_pairs.specs.PairTable.{moves_in}
use Rattle.rl_why.specs.internal.Numbers.{numbers_in}
use Rattle.rl_why.proofs.paths.numbers_of.Given as goal

abbrev pub invariant-loop-k : goal.invariant-loop-k
invariant-loop-k l =
    record {
      in_states : l.at < l.g.graph.states;
      path : (to : ℕ) × IsPath (moves_in l.g) l.at to (drop l.k l.path) (drop l.k l.word);
      rest : l.numbers ++ numbers_in l.a l.g l.at (drop l.k l.word) (drop l.k l.path) ≡ numbers_in l.a l.g l.fn.from l.word l.path;
    }
