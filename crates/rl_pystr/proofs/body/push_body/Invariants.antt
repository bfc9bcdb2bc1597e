-- The value read so far, followed by the value of the rest, is the whole value.
use Rattle.std.proofs.Common.{◌≡◌, ◌+◌, ◌*◌, ◌<◌, ◌^◌, length}
use Rattle.std.specs.Prelude.{Ok}
use Rattle.rl_pystr.specs.Values.{joined_results, value_from}
use Rattle.rl_pystr.proofs.body.push_body.Given as goal

abbrev pub invariant-loop-rest : goal.invariant-loop-rest
invariant-loop-rest l = record {
  same : joined_results (Ok l.initial.out) (value_from l.raw l.bytes l.first 0 l.initial.rest) ≡ joined_results (Ok l.out) (value_from l.raw l.bytes l.place l.skip l.rest);
  room : l.place + 4 * length l.rest + 256 < 2 ^ 32;
}

abbrev pub decreases-loop-rest : goal.decreases-loop-rest
decreases-loop-rest l = length l.rest
