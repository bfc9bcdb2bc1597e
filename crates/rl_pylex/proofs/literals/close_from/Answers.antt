-- Nothing that was skipped ends the search, and what is at the place decides whether it ends there.
use Rattle.std.proofs.Common.{◌<◌, length, drop, ap, sym, refl, arith, Some, None}
use Rattle.std.proofs.lemmas.List.{length-drop, drop_all}
use Rattle.rl_pylex.specs.Literals.{close_from}
use Rattle.rl_pylex.proofs.Closing.{Skips-zero, close-here, close-none, close-on, skips-on, some-count}
use Rattle.rl_pylex.proofs.literals.close_from.Goals as goal

pub returns-then-quotes_at-clause-value : goal.returns-then-quotes_at-clause-value
returns-then-quotes_at-clause-value c =
    let rest = c.rest_from-rest.result.now in
    let some : 0 < length rest =
    omega (arith, c.loop-at-test.true, ap length c.rest_from-rest.ensures, length-drop c.loop-at.at c.args.body.now) in
    close-on c.args.count c.args.quote c.loop-at.at c.args.body.now rest (Some c.args.count) c.loop-at.invariant.1 c.rest_from-rest.ensures
    (close-here c.args.count c.args.quote rest some c.if-quotes_at.ensures.value)

pub returns-then-quotes_at-clause-within : goal.returns-then-quotes_at-clause-within
returns-then-quotes_at-clause-within c =
    omega (arith, c.if-quotes_at.ensures.within refl, c.loop-at-test.true, ap length c.rest_from-rest.ensures, length-drop c.loop-at.at c.args.body.now)

pub returns-then-breaks_line-clause-value : goal.returns-then-breaks_line-clause-value
returns-then-breaks_line-clause-value c =
    let rest = c.rest_from-rest.result.now in
    let some : 0 < length rest =
    omega (arith, c.loop-at-test.true, ap length c.rest_from-rest.ensures, length-drop c.loop-at.at c.args.body.now) in
    close-on c.args.count c.args.quote c.loop-at.at c.args.body.now rest None c.loop-at.invariant.1 c.rest_from-rest.ensures
    (close-none c.args.count c.args.quote rest some c.if-quotes_at.ensures.value c.if-breaks_line.ensures)

pub loop-at-preserved : goal.loop-at-preserved
loop-at-preserved c = (
  omega (arith, c.skip-at.ensures.bound, c.loop-at-test.true, ap length c.rest_from-rest.ensures, length-drop c.loop-at.at c.args.body.now),
  skips-on c.args.count c.args.quote c.loop-at.at c.skip-at.result c.args.body.now c.rest_from-rest.result.now c.loop-at.invariant.1 c.rest_from-rest.ensures c.skip-at.ensures.skips,
)

pub returns-clause-value : goal.returns-clause-value
returns-clause-value c =
    let body = c.args.body.now in
    close-on c.args.count c.args.quote c.loop-at.at body (drop c.loop-at.at body) None c.loop-at.invariant.1 refl
    (ap (close_from c.args.count c.args.quote 0) (drop_all c.loop-at.at body (omega (arith, c.loop-at-test.false))))

pub loop-at-init : goal.loop-at-init
loop-at-init c = (omega arith, Skips-zero c.args.count c.args.quote c.args.body.now)

pub skip-at-requires-clause-some : goal.skip-at-requires-clause-some
skip-at-requires-clause-some c =
    omega (arith, c.loop-at-test.true, ap length c.rest_from-rest.ensures, length-drop c.loop-at.at c.args.body.now)

pub skip-at-requires-clause-counts : goal.skip-at-requires-clause-counts
skip-at-requires-clause-counts c = some-count c.args.count c.requires.counts

pub skip-at-requires-clause-quotes : goal.skip-at-requires-clause-quotes
skip-at-requires-clause-quotes c = c.requires.quotes

pub skip-at-requires-clause-other : goal.skip-at-requires-clause-other
skip-at-requires-clause-other c = sym c.if-quotes_at.ensures.value

pub skip-at-requires-clause-line : goal.skip-at-requires-clause-line
skip-at-requires-clause-line c = sym c.if-breaks_line.ensures
