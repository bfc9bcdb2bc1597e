-- One more code point.
use Rattle.std.proofs.Common.{refl}
use Rattle.rl_pystr.proofs.Quotes.{escaped_more}
use Rattle.rl_pystr.proofs.quoting.push_all_escaped.Goals as goal

pub loop-code-preserved : goal.loop-code-preserved
loop-code-preserved c =
    escaped_more c.args.bytes _ _ _ c.args.codes.now c.loop-code.code-index _ 0 c.loop-code-test.true refl c.loop-code.invariant c.in_ok-push_escaped.ensures
