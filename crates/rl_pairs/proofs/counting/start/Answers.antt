use Rattle.std.proofs.Common.{◌≡◌, ℕ, List, length, sym, subst, ap, ◌∙◌, arith}
use Rattle.rl_sets.specs.Walk.{IsListed}
use Rattle.rl_pairs.specs.internal.Errors.{IsRightError}
use Rattle.rl_pairs.proofs.CountingLaws.{right-error, counting-start, set-of-none}
use Rattle.rl_pairs.proofs.counting.start.Goals as goal

pub returns-in-Ok-clause-counting : goal.returns-in-Ok-clause-counting
returns-in-Ok-clause-counting c =
    let a = c.args.a.now in
    counting-start a c.in_ok-walk.walk c.intern.new.self c.in-Ok.field-0 c.in_ok-walk.ensures.empty (c.intern.ensures.limit ∙ c.in_ok-walk.ensures.limit) c.intern.ensures.made
    (subst (λ (s : List ℕ). IsListed c.in_ok-walk.walk.sets c.intern.new.self.sets s c.in-Ok.field-0) (set-of-none a c.new-none.result.items c.new-none.ensures.items) c.in-Ok.ensures.listed)

pub returns-clause-errors : goal.returns-clause-errors
returns-clause-errors c limit =
    let room : c.in_ok-walk.walk.limit ≡ 20000 = c.in_ok-walk.ensures.limit in
    subst (IsRightError c.args.a.now limit) (sym c.from.ensures) (right-error c.args.a.now limit c.in-Err.error (λ e. absurd (omega (arith, room, ap length c.in_ok-walk.ensures.empty, (c.in-Err.ensures.full e).full))))
