use Rattle.std.proofs.Common.{Bool, Some, slice_index_or, below_more, subst, arith}
use Rattle.rl_marks.specs.internal.Pairs.{begin}
use Rattle.rl_spans.specs.internal.Sides.{matcher_of}
use Rattle.rl_spans.specs.internal.Machines.{KeepsCodes}
use Rattle.rl_spans.proofs.checking.keeps_begins.Goals as goal

pub loop-index-preserved : goal.loop-index-preserved
loop-index-preserved c =
    below_more _ _ c.loop-index.invariant
    (subst
    (λ codes. (accepts : Bool) → KeepsCodes (matcher_of c.args.machine.now.first) (matcher_of c.args.machine.now.second) c.args.pairs.now c.args.machine.now.codes accepts
    (begin (Some (slice_index_or codes c.loop-index.index 0))))
    c.as_slice.ensures
    (c.in_ok-keeps_begin.ensures c.if-not-branch.false))

pub returns : goal.returns
returns c = λ done k lt. c.loop-index.invariant k (omega (arith, c.loop-index-test.false, c.len-count.ensures, lt))
