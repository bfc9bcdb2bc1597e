use Rattle.std.proofs.Common.{arith}
use Rattle.rl_kernel.specs.Seats.{seats_of}
use Rattle.rl_kernel.proofs.InnerLaws.{inner-done}
use Rattle.rl_kernel.proofs.inner.inner_graph.Goals as goal

pub returns : goal.returns
returns c =
    inner-done c.args.g.now c.args.components.now (seats_of c.args.kernel.now) c.loop-place.place c.loop-place.inner (omega (arith, c.loop-place-test.false, c.len-count.ensures)) c.loop-place.invariant.so_far
