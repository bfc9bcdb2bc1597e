use Rattle.std.proofs.Common.{arith, sym}
use Rattle.rl_ranges.proofs.StretchLemmas.{letter_from-at}
use Rattle.rl_ranges.proofs.stretches.stretch_before.Goals as goal

pub returns-clause-value : goal.returns-clause-value
returns-clause-value c =
    sym (letter_from-at 0 c.args.stretches.now c.loop-last.last c.args.code c.loop-last.invariant.inside (omega (arith, c.loop-last-test.false)) c.loop-last.invariant.later)
