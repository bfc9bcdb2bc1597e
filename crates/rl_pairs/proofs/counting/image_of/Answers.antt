use Rattle.std.proofs.lemmas.Result.{err_from_is_err_and}
use Rattle.rl_sets.specs.Live.{image}
use Rattle.rl_sets.specs.Walk.{set_at}
use Rattle.rl_pairs.proofs.CountingLaws.{right-error, full-over, number-listed, onward-listed}
use Rattle.rl_pairs.proofs.counting.image_of.Goals as goal

pub returns-in_err-number-clause-errors : goal.returns-in_err-number-clause-errors
returns-in_err-number-clause-errors c limit =
    let p = err_from_is_err_and c.from_residual.result c.from_residual.ensures.1 in
    rw (p.1, p.2) (right-error c.args.a.now limit c.in_err-number.field-0.0 (λ e.
    full-over c.args.a.now c.args.walk.now (image c.args.a.now (set_at c.args.walk.now c.args.set) c.args.letter) c.requires.counting c.requires.counted (c.in_err-number.ensures.full e)))

pub returns-clause-image : goal.returns-clause-image
returns-clause-image c =
    number-listed c.args.walk.now.sets c.step.new.self (image c.args.a.now (set_at c.args.walk.now c.args.set) c.args.letter) c.in_ok-number.number c.in_ok-number.ensures.listed

pub returns-clause-onward : goal.returns-clause-onward
returns-clause-onward c =
    onward-listed c.args.a.now c.args.walk.now c.step.new.self (image c.args.a.now (set_at c.args.walk.now c.args.set) c.args.letter) c.in_ok-number.number c.requires.counting c.step.ensures.made c.step.ensures.limit c.in_ok-number.ensures.listed c.requires.counted
