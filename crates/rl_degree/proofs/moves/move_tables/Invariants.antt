use Rattle.std.proofs.Common.{◌≡◌, ℕ, ◌<◌, [], length, get_or}
use Rattle.rl_degree.specs.internal.Moves.{IsMoveTable, IsUsed}
use Rattle.rl_degree.proofs.moves.move_tables.Given as goal

abbrev pub invariant-loop-letter : goal.invariant-loop-letter
invariant-loop-letter l = record {
  size : length l.tables.items ≡ l.letter;
  right : (k : ℕ) → k < l.letter → IsUsed l.inner k → IsMoveTable l.g k (get_or l.tables.items k []);
}
