use Rattle.std.proofs.lemmas.Result.{err_from_is_err_and}
use Rattle.rl_sets.specs.Walk.{set_at}
use Rattle.rl_pairs.proofs.CountingLaws.{right-error, search-over, onward-grown}
use Rattle.rl_pairs.proofs.counting.rest_of.Goals as goal

pub returns-in_err-rest-clause-errors : goal.returns-in_err-rest-clause-errors
returns-in_err-rest-clause-errors c limit =
    let p = err_from_is_err_and c.from_residual.result c.from_residual.ensures.1 in
    rw (p.1, p.2) (right-error c.args.a.now limit c.in_err-rest.field-0.0 (λ e.
    search-over c.args.a.now c.args.walk.now (set_at c.args.walk.now c.args.set) c.requires.counting (c.requires.counting.counted c.args.set c.requires.set_in) (c.in_err-rest.ensures.full e)))

pub returns-clause-onward : goal.returns-clause-onward
returns-clause-onward c =
    onward-grown c.args.a.now c.args.walk.now c.refused_rest.new.self (set_at c.args.walk.now c.args.set) c.requires.counting c.refused_rest.ensures.made c.refused_rest.ensures.limit c.refused_rest.ensures.grown (c.requires.counting.counted c.args.set c.requires.set_in)
