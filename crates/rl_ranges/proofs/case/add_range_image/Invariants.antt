use Rattle.std.proofs.Common.{take, ℕ, ◌||◌, ◌≡◌}
use Rattle.rl_ranges.specs.internal.Images.{in_range_image, is_among}
use Rattle.rl_ranges.proofs.case.add_range_image.Given as goal

abbrev pub invariant-loop-place : goal.invariant-loop-place
invariant-loop-place l = (c : ℕ) → is_among l.codes.items c ≡ (is_among l.fn.codes.items c || in_range_image (take l.place l.pairs) l.first l.last c)
