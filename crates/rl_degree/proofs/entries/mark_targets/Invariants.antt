use Rattle.std.proofs.Common.{◌≡◌, ℕ, ◌<◌, length, get_or}
use Rattle.rl_degree.specs.internal.Entries.{HasLetter, KeepsLetters}
use Rattle.rl_degree.proofs.entries.mark_targets.Given as goal

abbrev pub invariant-loop-place : goal.invariant-loop-place
invariant-loop-place l = record {
  size : length l.entries.items ≡ length l.fn.entries.items;
  kept : KeepsLetters l.fn.entries.items l.entries.items;
  marked : (i : ℕ) → i < l.place → HasLetter l.entries.items (get_or l.targets i 0) l.letter;
}
