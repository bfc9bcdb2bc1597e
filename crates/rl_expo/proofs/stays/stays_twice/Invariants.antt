use Rattle.std.proofs.Common.{ℕ, ◌<◌, ◌≡◌, false}
use Rattle.rl_expo.specs.internal.Search.{Stays, NoTwoStay}
use Rattle.rl_expo.proofs.stays.stays_twice.Given as goal

abbrev pub invariant-loop-place : goal.invariant-loop-place
invariant-loop-place l =
    (l.met ≡ false → (i : ℕ) → i < l.place → Stays l.components l.own l.row i → ⊥) × NoTwoStay l.components l.own l.row l.place
