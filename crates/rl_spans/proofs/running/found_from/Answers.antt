use Rattle.std.proofs.Common.{◌≡◌, suc, ◌+◌, length, None, Some, refl, sym, ap, ap₂, subst, ◌∙◌, arith}
use Rattle.rl_marks.specs.Marked.{marked_of}
use Rattle.rl_marks.specs.Hits.{is_hit_from}
use Rattle.rl_marks.specs.internal.Threads.{spread, stopped, moved, halted, first_ended, walks}
use Rattle.rl_marks.proofs.ThreadLaws.{or_else}
use Rattle.rl_spans.specs.internal.Hits.{ended_of, later_of, found_at}
use Rattle.rl_spans.proofs.StateLaws.{AreInside}
use Rattle.rl_spans.proofs.HitLaws.{run-step, run-end, get-past}
use Rattle.rl_spans.proofs.running.found_from.Goals as goal

pub loop-index-preserved : goal.loop-index-preserved
loop-index-preserved c =
    let m = marked_of c.args.side.now.tree in
    let w = c.args.text.now in
    let hit = is_hit_from c.args.side.now.ending c.args.advance w c.args.start in
    let i = c.loop-index.index in
    let code = c.code_at-code.result in
    let accepts = c.is_hit-accepts.result in
    let before = c.shown-before.result.code in
    let same : i + 1 ≡ suc i = omega arith in
    record {
      found = run-step m w hit i (i + 1) code c.code_at-code.ensures same accepts c.is_hit-accepts.ensures
          before (c.shown-before.ensures.code ∙ c.code_before-previous.ensures) c.loop-index.threads c.in_ok-step.step.threads
          (c.in_ok-step.ensures.threads ∙ ap₂ (λ p l. moved m accepts before code p l) c.in_ok-place.ensures.place c.as_slice.ensures)
          c.in_ok-step.step.stop
          (c.in_ok-step.ensures.stop ∙ ap₂ (λ p l. halted m accepts before (Some code) p l) c.in_ok-place.ensures.place c.as_slice.ensures)
          (ended_of c.loop-index.found) (ended_of c.later-found.result)
          (c.later-found.ensures ∙ ap (λ p. later_of p c.in_ok-step.step.stop (ended_of c.loop-index.found)) c.in_ok-place.ensures.place)
          (found_at c.args.side.now w c.args.advance c.args.start)
          c.loop-index.invariant.found;
      inside = c.in_ok-step.ensures.inside;
    }

pub step_at-requires-clause-inside : goal.step_at-requires-clause-inside
step_at-requires-clause-inside c = subst (AreInside (length c.args.side.now.rows)) (sym c.as_slice.ensures) c.loop-index.invariant.inside

pub tries_at_place-requires-clause-inside : goal.tries_at_place-requires-clause-inside
tries_at_place-requires-clause-inside c = subst (AreInside (length c.args.side.now.rows)) (sym c.as_slice-2.ensures) c.loop-index.invariant.inside

pub returns-clause-found : goal.returns-clause-found
returns-clause-found c =
    let m = marked_of c.args.side.now.tree in
    let w = c.args.text.now in
    let hit = is_hit_from c.args.side.now.ending c.args.advance w c.args.start in
    let size = length w in
    let stops = c.is_hit-stops.result in
    let behind = c.shown-behind.result.code in
    let whole = found_at c.args.side.now w c.args.advance c.args.start in
    let at : c.loop-index.index ≡ size = omega arith in
    run-end m w hit size (get-past w size refl) stops c.is_hit-stops.ensures
    behind (c.shown-behind.ensures.code ∙ c.code_before-final_code.ensures) c.loop-index.threads c.in_ok-stop.stop
    (c.in_ok-stop.ensures
    ∙ ap (stopped stops) (c.as_slice-3.ensures ∙ c.in_ok-tries.ensures
    ∙ ap (λ n. spread m behind n c.in_ok-last.last c.as_slice-2.result.now) c.shown-end.ensures.code
    ∙ ap₂ (λ p l. spread m behind None p l) c.in_ok-last.ensures.place c.as_slice-2.ensures))
    (ended_of c.loop-index.found) (ended_of c.later.result)
    (c.later.ensures ∙ ap (λ p. later_of p c.in_ok-stop.stop (ended_of c.loop-index.found)) c.in_ok-last.ensures.place)
    whole
    (subst (λ k. or_else (first_ended hit (walks m w c.loop-index.threads k)) (ended_of c.loop-index.found) ≡ whole) at c.loop-index.invariant.found)
