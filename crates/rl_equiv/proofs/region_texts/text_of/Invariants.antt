use Rattle.std.proofs.Common.{◌≡◌, ℕ, ◌<◌, false, ◌&&◌}
use Rattle.std.proofs.Math.Bool.{beq}
use Rattle.rl_equiv.specs.internal.Searching.{ends_in}
use Rattle.rl_equiv.proofs.region_texts.text_of.Given as goal

abbrev pub invariant-loop-place : goal.invariant-loop-place
invariant-loop-place l = (k : ℕ) → k < l.place → (beq (ends_in l.seen.items k).first l.first && beq (ends_in l.seen.items k).second l.second) ≡ false
