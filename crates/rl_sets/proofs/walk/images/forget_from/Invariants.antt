use Rattle.std.proofs.Common.{◌≡◌, ℕ, ◌<◌, length, get_or, None, Some}
use Rattle.rl_sets.proofs.walk.images.forget_from.Given as goal

abbrev pub invariant-loop-image : goal.invariant-loop-image
invariant-loop-image l = record {
  size : length l.images ≡ length l.fn.images;
  below : (i m : ℕ) → get_or l.images i None ≡ Some m → (get_or l.fn.images i None ≡ Some m) × (i < l.image-index → m < l.len);
}
