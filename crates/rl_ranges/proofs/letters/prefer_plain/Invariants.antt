use Rattle.std.proofs.Common.{get_or, length, ℕ, ◌-◌, ◌<◌, ◌≡◌}
use Rattle.rl_ranges.specs.internal.Splitting.{AreLater, IsPreferred}
use Rattle.rl_ranges.proofs.letters.prefer_plain.Given as goal

abbrev pub invariant-loop-back : goal.invariant-loop-back
invariant-loop-back l = record {
  len : length l.samples.items ≡ length l.fn.samples.items;
  each : (k : ℕ) → k < length l.fn.samples.items → IsPreferred l.stretches (127 - l.back) k (get_or l.fn.samples.items k 0) (get_or l.samples.items k 0);
  place_in : l.place < length l.stretches;
  later : AreLater l.stretches l.place (126 - l.back);
}
