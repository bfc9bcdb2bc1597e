-- Each step skips a run of ordinary bytes and what follows it.
use Rattle.std.proofs.Common.{◌≡◌, arith, length, ◌≤◌, ◌+◌, sym, ap, subst, ℕ}
use Rattle.std.proofs.lemmas.List.{length-drop}
use Rattle.rl_pylex.specs.internal.Absence.{ReachesWithout}
use Rattle.rl_pylex.proofs.Without.{without-start, without-run}
use Rattle.rl_pylex.proofs.absence.passes_without.Goals as goal

pub loop-at-init : goal.loop-at-init
loop-at-init c =
    (c.requires.within, subst (λ (n : ℕ). ReachesWithout c.args.source.now c.args.name.now n) (sym c.requires.begins) (without-start c.args.source.now c.args.name.now))

pub loop-at-preserved : goal.loop-at-preserved
loop-at-preserved c =
    let s = c.args.source.now in
    let within : c.loop-at.at + c.in-Some.run' + c.in-Some-size_between.size ≤ length s =
    omega (arith, c.loop-at-test.true, c.in-Some.ensures.within, ap length c.rest_from.ensures, length-drop c.loop-at.at s, c.in-Some-size_between.ensures.within, ap length c.rest_from-in-loop-at.ensures, length-drop (c.loop-at.at + c.in-Some.run') s) in (
      within,
      without-run s c.args.name.now c.rest_from.result.now c.rest_from-in-loop-at.result.now c.loop-at.at c.in-Some.run' c.in-Some-size_between.size c.requires.word
          c.rest_from.ensures c.in-Some.ensures.free c.loop-at.invariant.1 c.rest_from-in-loop-at.ensures c.in-Some-size_between.ensures.value,
    )

pub run_without-requires : goal.run_without-requires
run_without-requires c = c.requires.word

pub rest_from-requires-in-loop-at : goal.rest_from-requires-in-loop-at
rest_from-requires-in-loop-at c =
    omega (arith, c.loop-at-test.true, c.in-Some.ensures.within, ap length c.rest_from.ensures, length-drop c.loop-at.at c.args.source.now)

pub returns : goal.returns
returns c _ =
    let s = c.args.source.now in
    let end : c.loop-at.at ≡ length s = omega (arith, c.loop-at-test.false, c.loop-at.invariant.0) in
    subst (λ (n : ℕ). ReachesWithout s c.args.name.now n) end c.loop-at.invariant.1
