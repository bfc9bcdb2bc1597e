use Rattle.std.proofs.Common.{◌≡◌, ℕ, ◌+◌, ◌-◌, ◌<◌, ◌≤◌, true, length, arith, sym, subst, ap, ◌∙◌}
use Rattle.std.proofs.lemmas.Result.{err_from_is_err_and}
use Rattle.rl_prio.specs.Automaton.{accepting_state}
use Rattle.rl_sets.specs.Live.{holds}
use Rattle.rl_sets.specs.Walk.{Walk, set_at}
use Rattle.rl_pairs.specs.internal.Counting.{IsClosed}
use Rattle.rl_pairs.proofs.CountingLaws.{IsClosing, closing-start, closing-set, closing-free, closing-few, closed-none}
use Rattle.rl_pairs.proofs.counting.close.Goals as goal
use Rattle.rl_pairs.proofs.counting.close.Goals.{then-not-holds+in_ok-close_set, else-not-holds}

pub loop-set-init : goal.loop-set-init
loop-set-init c = record { closing = closing-start c.args.a.now c.args.walk.now 0 c.requires.counting (closed-none c.args.a.now c.args.walk.now); within = omega arith }

pub close_set-requires : goal.close_set-requires
close_set-requires c = record {
  counting = c.loop-set.invariant.closing.onward.counting;
  set_in = omega (arith, c.len.ensures.len);
  free = ap (λ (n : ℕ). holds (set_at c.loop-set.walk c.loop-set.set) (n - 2)) (sym c.states-accepting.ensures.count) ∙ sym c.holds.ensures ∙ c.if-not-holds.true;
  closed = c.loop-set.invariant.closing.closed;
}

pub returns-in_err-close_set-clause-errors : goal.returns-in_err-close_set-clause-errors
returns-in_err-close_set-clause-errors c limit = let p = err_from_is_err_and c.from_residual.result c.from_residual.ensures.1 in rw (p.1, p.2) (c.in_err-close_set.ensures.errors limit)

pub loop-set-preserved : goal.loop-set-preserved
loop-set-preserved c =
    let a = c.args.a.now in
    let w = c.loop-set.walk in
    let i = c.loop-set.invariant.closing in
    let lt : c.loop-set.set < length w.sets = omega (arith, c.len.ensures.len, c.loop-set-test.true) in
    elim c.if-not-holds.branch [
      | then-not-holds+in_ok-close_set b ↦
          let o = b.in_ok-close_set.ensures.onward in
          subst (λ (v : Walk). record { closing : IsClosing a c.args.walk.now v (c.loop-set.set + 1) 0; within : c.loop-set.set + 1 ≤ length v.sets }) (sym b.walk-is)
          (record { closing = closing-set a c.args.walk.now w b.close_set.new.walk c.loop-set.set i lt o b.in_ok-close_set.ensures.closed; within = omega (arith, o.keeps.longer) })
      | else-not-holds b ↦
          let e : holds (set_at w c.loop-set.set) (accepting_state a) ≡ true = ap (λ (n : ℕ). holds (set_at w c.loop-set.set) (n - 2)) (sym c.states-accepting.ensures.count) ∙ sym c.holds.ensures ∙ b.if-not-holds.false in
          subst (λ (v : Walk). record { closing : IsClosing a c.args.walk.now v (c.loop-set.set + 1) 0; within : c.loop-set.set + 1 ≤ length v.sets }) (sym b.walk-is)
          (record { closing = closing-free a c.args.walk.now w c.loop-set.set i e; within = omega arith })
    ]

pub loop-set-smaller : goal.loop-set-smaller
loop-set-smaller c = omega (arith, c.len.ensures.len, c.loop-set-test.true, closing-few c.args.a.now c.args.walk.now c.loop-set.walk c.loop-set.set 0 c.loop-set.invariant.closing)

pub returns-clause-closed : goal.returns-clause-closed
returns-clause-closed c =
    let e : c.loop-set.set ≡ length c.loop-set.walk.sets = omega (arith, c.len.ensures.len, c.loop-set-test.false, c.loop-set.invariant.within) in
    subst (λ (n : ℕ). IsClosed c.args.a.now c.loop-set.walk n 0) e c.loop-set.invariant.closing.closed

pub returns-clause-onward : goal.returns-clause-onward
returns-clause-onward c = c.loop-set.invariant.closing.onward
