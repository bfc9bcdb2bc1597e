-- Each step skips the byte at the place and the free ones after it.
use Rattle.std.proofs.Common.{arith, ℕ, List, length, drop, ◌≤◌, ◌+◌, refl, sym, ap, subst}
use Rattle.std.proofs.lemmas.List.{length-drop}
use Rattle.rl_pylex.specs.internal.Absence.{IsFree}
use Rattle.rl_pylex.proofs.Words.{passed-start, passed-on, passed-end}
use Rattle.rl_pylex.proofs.absence.run_without.Goals as goal

pub loop-at-init : goal.loop-at-init
loop-at-init c =
    (c.free_size-at.ensures.within, passed-start c.args.name.now c.args.text.now c.free_size-at.result c.free_size-at.ensures.within c.free_size-at.ensures.free)

pub loop-at-preserved : goal.loop-at-preserved
loop-at-preserved c =
    let text = c.args.text.now in
    let rest = c.rest_from.ensures in
    let room : c.free_size.result ≤ length (drop (c.loop-at.at + 1) text) = omega (arith, c.free_size.ensures.within, ap length rest) in
    let within : c.loop-at.at + (1 + c.free_size.result) ≤ length text =
    omega (arith, c.loop-at-test.ensures.within refl, room, length-drop (c.loop-at.at + 1) text) in (
      within,
      passed-on c.args.name.now text c.loop-at.at c.free_size.result c.loop-at.invariant.1 (sym c.loop-at-test.ensures.value) c.if-is_word.ensures room
          (subst (λ (ys : List ℕ). IsFree c.args.name.now ys c.free_size.result) rest c.free_size.ensures.free),
    )

pub returns-clause-free : goal.returns-clause-free
returns-clause-free c =
    passed-end c.args.name.now c.args.text.now c.loop-at.at c.loop-at.invariant.1 (sym c.loop-at-test.ensures.value)
