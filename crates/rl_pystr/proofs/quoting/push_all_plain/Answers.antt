-- One more code point, which is a byte.
use Rattle.std.proofs.Common.{arith, refl}
use Rattle.rl_pystr.proofs.Quotes.{plain_at, plain_more}
use Rattle.rl_pystr.proofs.quoting.push_all_plain.Goals as goal

pub overflow_cast-code : goal.overflow_cast-code
overflow_cast-code c = omega (arith, plain_at c.args.codes.now c.loop-code.code-index 0 c.requires c.loop-code-test.true)

pub loop-code-preserved : goal.loop-code-preserved
loop-code-preserved c =
    plain_more _ _ _ c.args.codes.now c.loop-code.code-index _ 0 c.loop-code-test.true refl c.loop-code.invariant c.in_ok-push.ensures.items
