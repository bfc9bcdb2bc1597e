use Rattle.std.proofs.Common.{sym, ap, ◌∙◌}
use Rattle.std.proofs.lemmas.List.{take_all}
use Rattle.std.proofs.lemmas.Result.{err_from_is_err_and}
use Rattle.rl_prio.specs.internal.Attempts.{ends_replaced}
use Rattle.rl_prio.proofs.AttemptLemmas.{onward_more, onward_many}
use Rattle.rl_prio.proofs.build.attempts.with_ends_replaced.Goals as goal

pub loop-attempt-preserved : goal.loop-attempt-preserved
loop-attempt-preserved c = (
  onward_more c.args.attempts.now c.args.further.now c.loop-attempt.list c.put_onward.new.list c.loop-attempt.attempt-index _ c.loop-attempt-test.true c.loop-attempt.invariant.0 c.in_ok-put_onward.ensures.put,
  c.in_ok-put_onward.ensures.short c.loop-attempt.invariant.1,
)

pub returns-in_err-put_onward-clause-moves : goal.returns-in_err-put_onward-clause-moves
returns-in_err-put_onward-clause-moves c =
    let p = err_from_is_err_and c.from_residual-in_err-put_onward.result c.from_residual-in_err-put_onward.ensures.1 in
    rw p.1 (λ e.
    onward_many c.args.attempts.now c.args.further.now c.loop-attempt.list c.loop-attempt.attempt-index _ c.loop-attempt-test.true c.loop-attempt.invariant.0
    (c.in_err-put_onward.ensures.moves (sym p.2 ∙ e)))

pub returns-clause-ok : goal.returns-clause-ok
returns-clause-ok c =
    c.loop-attempt.invariant.0
    ∙ ap (λ l. ends_replaced l c.args.further.now) (take_all c.loop-attempt.attempt-index c.args.attempts.now c.loop-attempt-test.false)
