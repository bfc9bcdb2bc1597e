use Rattle.std.proofs.lemmas.Result.{err_from_is_err_and}
use Rattle.rl_sets.specs.Live.{joined}
use Rattle.rl_sets.specs.Walk.{set_at}
use Rattle.rl_pairs.proofs.CountingLaws.{right-error, full-over, number-listed, onward-listed}
use Rattle.rl_pairs.proofs.counting.joined_with.Goals as goal

pub returns-in_err-number-clause-errors : goal.returns-in_err-number-clause-errors
returns-in_err-number-clause-errors c limit =
    let p = err_from_is_err_and c.from_residual.result c.from_residual.ensures.1 in
    rw (p.1, p.2) (right-error c.args.a.now limit c.in_err-number.field-0.0 (λ e.
    full-over c.args.a.now c.args.walk.now (joined c.args.a.now c.args.state (set_at c.args.walk.now c.args.set)) c.requires.counting c.requires.counted (c.in_err-number.ensures.full c.args.a.now c.requires.counting.made e)))

pub returns-clause-joined : goal.returns-clause-joined
returns-clause-joined c =
    number-listed c.args.walk.now.sets c.join.new.self (joined c.args.a.now c.args.state (set_at c.args.walk.now c.args.set)) c.in_ok-number.number (c.in_ok-number.ensures.listed c.args.a.now c.requires.counting.made)

pub returns-clause-onward : goal.returns-clause-onward
returns-clause-onward c =
    onward-listed c.args.a.now c.args.walk.now c.join.new.self (joined c.args.a.now c.args.state (set_at c.args.walk.now c.args.set)) c.in_ok-number.number c.requires.counting (c.join.ensures.made c.args.a.now c.requires.counting.made) c.join.ensures.limit (c.in_ok-number.ensures.listed c.args.a.now c.requires.counting.made) c.requires.counted
