use Rattle.std.proofs.Common.{◌≡◌, ◌≢◌, ℕ, ◌+◌, ◌<◌, ◌⊎◌, inl, inr, arith}
use Rattle.std.proofs.lemmas.Bool.{cases_eq}
use Rattle.rl_kernel.specs.Seats.{seats_of}
use Rattle.rl_expo.specs.internal.Meeting.{NoneMeets}
use Rattle.rl_expo.proofs.forks.fork_among.Goals as goal

pub loop-place-preserved : goal.loop-place-preserved
loop-place-preserved c = (none, c.in_default.ensures.searched)
  where
    none : (i l : ℕ) → i < c.loop-place.place + 1 → l < c.args.g.now.letters → NoneMeets c.args.g.now (seats_of c.args.kernel.now) c.args.parts.now i l
    none i l hi hl = by (cases_eq i c.loop-place.place)
      where
        by : (i ≡ c.loop-place.place) ⊎ (i ≢ c.loop-place.place) → NoneMeets c.args.g.now (seats_of c.args.kernel.now) c.args.parts.now i l
        by (inl e) = rw e (c.in_default.ensures.none l hl)
        by (inr n) = c.loop-place.invariant.0 i l (omega (arith, hi, n)) hl
