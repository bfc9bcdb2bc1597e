use Rattle.std.proofs.Common.{◌∙◌, ap}
use Rattle.rl_spans.specs.internal.Among.{is_among}
use Rattle.rl_spans.proofs.DistinctLaws.{distinct-more, distinct-past, distinct-end}
use Rattle.rl_spans.proofs.threads.distinct_of.Goals.{then-not-has_state+in_ok-copy+in_ok-push, else-not-has_state}
use Rattle.rl_spans.proofs.threads.distinct_of.Goals as goal

pub loop-thread-preserved : goal.loop-thread-preserved
loop-thread-preserved c =
    let t = c.thread-item.result in
    let among = c.has_state.ensures ∙ ap (is_among t.state) c.as_slice.ensures in
    elim c.if-not-has_state.branch [
      | then-not-has_state+in_ok-copy+in_ok-push w ↦
          distinct-more c.loop-thread.list c.args.threads.now c.loop-thread.thread-index t c.loop-thread-test.true c.thread-item.is c.has_state.result
          _ _ among w.if-not-has_state.true w.in_ok-copy.ensures (w.list-is ∙ w.in_ok-push.ensures.pushed) c.loop-thread.invariant
      | else-not-has_state w ↦
          distinct-past c.loop-thread.list c.args.threads.now c.loop-thread.thread-index t c.loop-thread-test.true c.thread-item.is c.has_state.result
          _ among w.if-not-has_state.false w.list-is c.loop-thread.invariant
    ]

pub returns : goal.returns
returns c = distinct-end c.loop-thread.list c.args.threads.now c.loop-thread.thread-index c.loop-thread-test.false c.loop-thread.invariant
