-- The search goes on if there is no name at the place.
use Rattle.std.proofs.Common.{ap, sym, ◌∙◌, arith, ℕ, List}
use Rattle.std.proofs.lemmas.List.{drop_all}
use Rattle.rl_pylex.specs.Coding.{named_here, from_place, first_named}
use Rattle.rl_pylex.proofs.FirstNamed.{from_place-zero, first_named-here, first_named-on}
use Rattle.rl_pylex.proofs.coding.first_named.Goals as goal

pub loop-at-init : goal.loop-at-init
loop-at-init c = from_place-zero (first_named c.args.text.now)

pub returns-in-Some-clause-value : goal.returns-in-Some-clause-value
returns-in-Some-clause-value c =
    sym (c.loop-at.invariant
    ∙ ap (from_place c.loop-at.at) (first_named-here c.args.text.now c.loop-at.at c.in-Some.named c.loop-at-test.true (c.in-Some.ensures.value ∙ ap named_here c.rest_from.ensures)))

pub loop-at-preserved : goal.loop-at-preserved
loop-at-preserved c =
    c.loop-at.invariant ∙ first_named-on c.args.text.now c.loop-at.at c.loop-at-test.true (c.in_default.ensures.value ∙ ap named_here c.rest_from.ensures)

pub returns-clause-value : goal.returns-clause-value
returns-clause-value c =
    sym (c.loop-at.invariant ∙ ap (λ (xs : List ℕ). from_place c.loop-at.at (first_named xs)) (drop_all c.loop-at.at c.args.text.now (omega (arith, c.loop-at-test.false))))
