use Rattle.std.proofs.Common.{ap, arith, length, rules, subst, sym, ◌*◌, ◌+◌, ◌<◌, ◌∙◌, ◌≤◌}
use Rattle.std.proofs.lemmas.Result.{err_from_is_err_and}
use Rattle.std.specs.Prelude.{vec_capacity}
use Rattle.rl_ranges.proofs.SplitLemmas.{InGap, InPlace, begins_in, gap_full, gap_none, gap_numbered, gap_room, in_place, inside_full, range_begun, range_numbered, reach_values, rest_full, rest_none, rest_numbered, rest_room, stretch_begun, stretches_all, stretches_none}
use Rattle.rl_ranges.specs.internal.Splitting.{start_or}
use Rattle.rl_ranges.proofs.stretches.split.Goals.{then-at-first+in_ok-gap, else-at-first, then-loop-at-test+else-next_start-end, else-loop-at-test, then-at-end+in_ok-append_run, else-at-end}
use Rattle.rl_ranges.proofs.stretches.split.Goals as goal

pub loop-place-init : goal.loop-place-init
loop-place-init c =
    stretches_none c.args.known.now.stretches.items c.args.held.now c.args.count (2 * c.len-values.result) _ _ _ _ c.requires.table.covers
    (c.in_ok-numbers.ensures.items_if_clones_equal (λ y e. search rules)) c.in_ok-stretches.ensures.items c.in_ok-least.ensures.items
    (omega (arith, c.in_ok-stretches.ensures.exact, c.len.ensures, c.args.known.now.stretches.ok.0))

pub loop-at-init : goal.loop-at-init
loop-at-init c =
    let left = c.args.known.now.stretches.items in
    let held = c.args.held.now in
    let n = c.args.count in
    let values = 2 * c.len-values.result in
    let place = c.loop-place.place in
    let x = c.index.result.now in
    let end = c.next_start-end.result in
    let h : InPlace left held n values place x.0 end (2 * x.1) =
    in_place left held n values (length c.args.known.now.least.items) c.len-place-end.result place end x _ c.requires.table.covers c.requires.table.below c.requires.sorted c.loop-place-test.true
    (c.len-place-end.ensures ∙ c.args.known.now.stretches.ok.0) c.index.ensures
    (c.next_start-end.ensures ∙ ap (λ l. start_or l (place + 1) n) c.deref.ensures.value) (ap (λ m. 2 * m) (c.len-values.ensures ∙ c.args.known.now.least.ok.0)) in
    stretch_begun _ _ h c.loop-place.invariant c.index-outside.ensures c.index-inside.ensures

pub returns-in_err-gap-clause-too_many : goal.returns-in_err-gap-clause-too_many
returns-in_err-gap-clause-too_many c =
    let was = c.loop-at.invariant in
    let next = begins_in {range = c.loop-at.range} was.here c.next_start.ensures c.if-next_start-end.true in
    let p = err_from_is_err_and c.from_residual-in_err-gap.result c.from_residual-in_err-gap.ensures.1 in
    rw p.1 (λ e. gap_full was next c.loop-at-test.true c.if-at-first.true (c.in_err-gap.ensures.too_many (sym p.2 ∙ e)))

pub append_run-requires-in-loop-at : goal.append_run-requires-in-loop-at
append_run-requires-in-loop-at c =
    let was = c.loop-at.invariant in
    let next = begins_in {range = c.loop-at.range} was.here c.next_start.ensures c.if-next_start-end.true in
    let gap : InGap c.args.known.now.stretches.items c.args.held.now c.args.count (2 * c.len-values.result) c.loop-place.place c.index.result.now.0 c.next_start-end.result (2 * c.index.result.now.1)
    c.loop-at.range c.if-at-first.at c.if-at-first.outside c.loop-at.inside c.if-at-first.numbers.items c.if-at-first.stretches.items c.if-at-first.least.items (vec_capacity c.if-at-first.stretches) =
    elim c.if-at-first.branch [
      | then-at-first+in_ok-gap w ↦ rw (w.numbers-is, w.least-is, w.stretches-is, w.outside-is, w.at-is)
          (gap_numbered was next w.if-at-first.true w.in_ok-gap.ensures.ok w.in_ok-gap.ensures.appended w.in_ok-gap.ensures.capacity)
      | else-at-first w ↦ rw (w.numbers-is, w.least-is, w.stretches-is, w.outside-is, w.at-is)
          (gap_none was next c.loop-at-test.true w.if-at-first.false)
    ] in
    record {
      value = (reach_values gap.here gap.run).1;
      few = gap.run.progress.few;
      kept = gap.run.inside_is;
      room = gap_room gap c.if-at-first.stretches.ok.0;
    }

pub returns-in_err-run-clause-too_many : goal.returns-in_err-run-clause-too_many
returns-in_err-run-clause-too_many c =
    let was = c.loop-at.invariant in
    let next = begins_in {range = c.loop-at.range} was.here c.next_start.ensures c.if-next_start-end.true in
    let gap : InGap c.args.known.now.stretches.items c.args.held.now c.args.count (2 * c.len-values.result) c.loop-place.place c.index.result.now.0 c.next_start-end.result (2 * c.index.result.now.1)
    c.loop-at.range c.if-at-first.at c.if-at-first.outside c.loop-at.inside c.if-at-first.numbers.items c.if-at-first.stretches.items c.if-at-first.least.items (vec_capacity c.if-at-first.stretches) =
    elim c.if-at-first.branch [
      | then-at-first+in_ok-gap w ↦ rw (w.numbers-is, w.least-is, w.stretches-is, w.outside-is, w.at-is)
          (gap_numbered was next w.if-at-first.true w.in_ok-gap.ensures.ok w.in_ok-gap.ensures.appended w.in_ok-gap.ensures.capacity)
      | else-at-first w ↦ rw (w.numbers-is, w.least-is, w.stretches-is, w.outside-is, w.at-is)
          (gap_none was next c.loop-at-test.true w.if-at-first.false)
    ] in
    let p = err_from_is_err_and c.from_residual-in_err-run.result c.from_residual-in_err-run.ensures.1 in
    rw p.1 (λ e. inside_full _ _ _ _ _ _ _ _ _ _ _ _ _ _ _ gap.here gap.run gap.some gap.range_in gap.begun (c.in_err-run.ensures.too_many (sym p.2 ∙ e)))

pub loop-at-preserved-then-last-end : goal.loop-at-preserved-then-last-end
loop-at-preserved-then-last-end c =
    let was = c.loop-at.invariant in
    let next = begins_in {range = c.loop-at.range} was.here c.next_start.ensures c.if-next_start-end.true in
    let gap : InGap c.args.known.now.stretches.items c.args.held.now c.args.count (2 * c.len-values.result) c.loop-place.place c.index.result.now.0 c.next_start-end.result (2 * c.index.result.now.1)
    c.loop-at.range c.if-at-first.at c.if-at-first.outside c.loop-at.inside c.if-at-first.numbers.items c.if-at-first.stretches.items c.if-at-first.least.items (vec_capacity c.if-at-first.stretches) =
    elim c.if-at-first.branch [
      | then-at-first+in_ok-gap w ↦ rw (w.numbers-is, w.least-is, w.stretches-is, w.outside-is, w.at-is)
          (gap_numbered was next w.if-at-first.true w.in_ok-gap.ensures.ok w.in_ok-gap.ensures.appended w.in_ok-gap.ensures.capacity)
      | else-at-first w ↦ rw (w.numbers-is, w.least-is, w.stretches-is, w.outside-is, w.at-is)
          (gap_none was next c.loop-at-test.true w.if-at-first.false)
    ] in
    range_numbered gap c.if-last-end.true c.in_ok-run.ensures.ok c.in_ok-run.ensures.appended c.in_ok-run.ensures.capacity

pub loop-at-preserved : goal.loop-at-preserved
loop-at-preserved c =
    let was = c.loop-at.invariant in
    let next = begins_in {range = c.loop-at.range} was.here c.next_start.ensures c.if-next_start-end.true in
    let gap : InGap c.args.known.now.stretches.items c.args.held.now c.args.count (2 * c.len-values.result) c.loop-place.place c.index.result.now.0 c.next_start-end.result (2 * c.index.result.now.1)
    c.loop-at.range c.if-at-first.at c.if-at-first.outside c.loop-at.inside c.if-at-first.numbers.items c.if-at-first.stretches.items c.if-at-first.least.items (vec_capacity c.if-at-first.stretches) =
    elim c.if-at-first.branch [
      | then-at-first+in_ok-gap w ↦ rw (w.numbers-is, w.least-is, w.stretches-is, w.outside-is, w.at-is)
          (gap_numbered was next w.if-at-first.true w.in_ok-gap.ensures.ok w.in_ok-gap.ensures.appended w.in_ok-gap.ensures.capacity)
      | else-at-first w ↦ rw (w.numbers-is, w.least-is, w.stretches-is, w.outside-is, w.at-is)
          (gap_none was next c.loop-at-test.true w.if-at-first.false)
    ] in
    range_begun gap c.if-last-end.false c.in_ok-run.ensures.ok c.in_ok-run.ensures.appended c.in_ok-run.ensures.capacity

pub append_run-requires-then-at-end : goal.append_run-requires-then-at-end
append_run-requires-then-at-end c =
    let was = c.loop-at.invariant in
    let front : c.loop-at.at < c.next_start-end.result → c.next_start-end.result ≤ start_or c.args.held.now c.loop-at.range c.args.count = λ some. elim c.loop-at-test.branch [
      | then-loop-at-test+else-next_start-end w ↦ subst (λ s. c.next_start-end.result ≤ s) w.next_start.ensures w.if-next_start-end.false
      | else-loop-at-test w ↦ absurd (omega (arith, some, w.loop-at-test.false))
    ] in
    record {
      value = (reach_values was.here was.run).0;
      few = was.run.progress.few;
      kept = was.run.outside_is;
      room = rest_room was c.if-at-end.true (front c.if-at-end.true) c.loop-at.stretches.ok.0;
    }

pub returns-in_err-append_run-clause-too_many : goal.returns-in_err-append_run-clause-too_many
returns-in_err-append_run-clause-too_many c =
    let was = c.loop-at.invariant in
    let front : c.loop-at.at < c.next_start-end.result → c.next_start-end.result ≤ start_or c.args.held.now c.loop-at.range c.args.count = λ some. elim c.loop-at-test.branch [
      | then-loop-at-test+else-next_start-end w ↦ subst (λ s. c.next_start-end.result ≤ s) w.next_start.ensures w.if-next_start-end.false
      | else-loop-at-test w ↦ absurd (omega (arith, some, w.loop-at-test.false))
    ] in
    let p = err_from_is_err_and c.from_residual-in_err-append_run.result c.from_residual-in_err-append_run.ensures.1 in
    rw p.1 (λ e. rest_full was c.if-at-end.true (front c.if-at-end.true) (c.in_err-append_run.ensures.too_many (sym p.2 ∙ e)))

pub loop-place-preserved : goal.loop-place-preserved
loop-place-preserved c =
    let was = c.loop-at.invariant in
    let front : c.loop-at.at < c.next_start-end.result → c.next_start-end.result ≤ start_or c.args.held.now c.loop-at.range c.args.count = λ some. elim c.loop-at-test.branch [
      | then-loop-at-test+else-next_start-end w ↦ subst (λ s. c.next_start-end.result ≤ s) w.next_start.ensures w.if-next_start-end.false
      | else-loop-at-test w ↦ absurd (omega (arith, some, w.loop-at-test.false))
    ] in
    elim c.if-at-end.branch [
      | then-at-end+in_ok-append_run w ↦ rw (w.numbers-is, w.least-is, w.stretches-is)
          (rest_numbered _ was w.if-at-end.true (front w.if-at-end.true) w.in_ok-append_run.ensures.ok w.in_ok-append_run.ensures.appended w.in_ok-append_run.ensures.capacity)
      | else-at-end w ↦ rw (w.numbers-is, w.least-is, w.stretches-is) (rest_none was w.if-at-end.false)
    ]

pub returns-clause-ok : goal.returns-clause-ok
returns-clause-ok c =
    stretches_all c.args.known.now.stretches.items c.args.held.now c.args.count (2 * c.len-values.result) c.loop-place.place c.len-place-end.result _ _ _ _ _ c.requires.table.covers
    c.loop-place.invariant (c.len-place-end.ensures ∙ c.args.known.now.stretches.ok.0) c.loop-place-test.false
