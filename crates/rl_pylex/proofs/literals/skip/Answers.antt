-- A unit is skipped, and then the run after it.
use Rattle.std.proofs.Common.{arith, ap, sym, subst, ℕ, length}
use Rattle.std.proofs.lemmas.List.{length-drop}
use Rattle.rl_pylex.specs.internal.Bodies.{Skips}
use Rattle.rl_pylex.proofs.Closing.{Skips-unit, skips-on}
use Rattle.rl_pylex.proofs.literals.skip.Goals as goal

pub returns-then-unit-body-clause-skips : goal.returns-then-unit-body-clause-skips
returns-then-unit-body-clause-skips c =
    subst (λ (n : ℕ). Skips c.args.count c.args.quote n c.args.body.now) (sym c.unit_size-unit.ensures.value)
    (Skips-unit c.args.count c.args.quote c.args.body.now c.requires.some c.requires.other c.requires.line)

pub returns-clause-skips : goal.returns-clause-skips
returns-clause-skips c =
    skips-on c.args.count c.args.quote c.unit_size-unit.result c.run_size.result c.args.body.now c.rest_from.result.now
    (subst (λ (n : ℕ). Skips c.args.count c.args.quote n c.args.body.now) (sym c.unit_size-unit.ensures.value)
    (Skips-unit c.args.count c.args.quote c.args.body.now c.requires.some c.requires.other c.requires.line))
    c.rest_from.ensures c.run_size.ensures.skips

pub returns-clause-bound : goal.returns-clause-bound
returns-clause-bound c =
    omega (arith, c.run_size.ensures.within, c.if-unit-body.false, ap length c.rest_from.ensures, length-drop c.unit_size-unit.result c.args.body.now)
