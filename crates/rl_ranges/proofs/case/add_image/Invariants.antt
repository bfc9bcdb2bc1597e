use Rattle.std.proofs.Common.{take, ℕ, ◌||◌, ◌≡◌}
use Rattle.rl_ranges.specs.internal.Images.{in_image, is_among}
use Rattle.rl_ranges.proofs.case.add_image.Given as goal

abbrev pub invariant-loop-first : goal.invariant-loop-first
invariant-loop-first l = (c : ℕ) → is_among l.codes.items c ≡ (is_among l.fn.codes.items c || in_image l.pairs (take l.first-index l.ranges) c)
