use Rattle.std.proofs.Common.{◌≡◌, ◌↔◌, IsTrue, ◌+◌, ◌-◌, ◌<◌, length, get_or, sym, arith, true≢false}
use Rattle.std.proofs.lemmas.Result.{IfOk-weaker}
use Rattle.rl_numbers.proofs.RowLoops.{never-both}
use Rattle.rl_pairs.specs.PairTable.{moves_in, pair_in}
use Rattle.rl_cert.specs.Ways.{IsWay}
use Rattle.rl_cert.specs.internal.WayParts.{IsEnd, Fits}
use Rattle.rl_cert.proofs.WayLaws.{way-fits, way-link, way-decided, word-at, no_anchor}
use Rattle.rl_cert.proofs.walking.is_way.Goals as goal

pub returns-then-not-fits : goal.returns-then-not-fits
returns-then-not-fits c = (
  λ e. absurd (true≢false (sym e)),
  λ w. absurd (never-both c.fits.result c.if-not-fits.true (c.fits.ensures.1 (way-fits c.args.a.now (moves_in c.args.g.now) (pair_in c.args.g.now) c.args.g.now.graph.states 0 c.args.anchors.now c.args.heads.now c.args.pumps.now w))),
)

pub returns-then-not-linked : goal.returns-then-not-linked
returns-then-not-linked c =
    let f : Fits (length c.args.anchors.now) (length c.args.heads.now) (length c.args.pumps.now) = c.fits.ensures.0 c.if-not-fits.false in
    let i = c.loop-place.place in
    let lt : i + 1 < length c.args.anchors.now = omega (arith, c.loop-place-test.true, f.0) in
    let eh = word-at c.args.heads.now i c.index-heads-place.result c.as_slice-head.result.now (omega (arith, lt, f.2)) c.index-heads-place.is c.as_slice-head.ensures in
    let ep = word-at c.args.pumps.now i c.index-pumps-place.result c.as_slice-pump.result.now (omega (arith, lt, f.1)) c.index-pumps-place.is c.as_slice-pump.ensures in
    let iff = rw (c.graph.ensures, eh, ep) at c.in_ok-linked.ensures in
    let link = way-link c.args.a.now (moves_in c.args.g.now) (pair_in c.args.g.now) c.args.g.now.graph.states c.args.anchors.now c.args.heads.now c.args.pumps.now f c.loop-place.from i lt in
    (λ e. absurd (true≢false (sym e)), λ w. absurd (never-both c.in_ok-linked.linked c.if-not-linked.true (iff.1 (link.0 (c.loop-place.invariant.there w)).0)))

pub loop-place-preserved : goal.loop-place-preserved
loop-place-preserved c =
    let f : Fits (length c.args.anchors.now) (length c.args.heads.now) (length c.args.pumps.now) = c.fits.ensures.0 c.if-not-fits.false in
    let i = c.loop-place.place in
    let lt : i + 1 < length c.args.anchors.now = omega (arith, c.loop-place-test.true, f.0) in
    let eh = word-at c.args.heads.now i c.index-heads-place.result c.as_slice-head.result.now (omega (arith, lt, f.2)) c.index-heads-place.is c.as_slice-head.ensures in
    let ep = word-at c.args.pumps.now i c.index-pumps-place.result c.as_slice-pump.result.now (omega (arith, lt, f.1)) c.index-pumps-place.is c.as_slice-pump.ensures in
    let iff = rw (c.graph.ensures, eh, ep) at c.in_ok-linked.ensures in
    let link = way-link c.args.a.now (moves_in c.args.g.now) (pair_in c.args.g.now) c.args.g.now.graph.states c.args.anchors.now c.args.heads.now c.args.pumps.now f c.loop-place.from i lt in
    let ok = iff.0 c.if-not-linked.false in
    record {
      inside = ok.1;
      there = λ w. (link.0 (c.loop-place.invariant.there w)).1;
      back = λ w. c.loop-place.invariant.back (link.1 (ok, w));
    }

pub returns : goal.returns
returns c =
    let f : Fits (length c.args.anchors.now) (length c.args.heads.now) (length c.args.pumps.now) = c.fits.ensures.0 c.if-not-fits.false in
    let n = length c.args.anchors.now in
    let i = n - 1 in
    let at : c.loop-place.place ≡ n - 1 = omega (arith, c.loop-place-test.false, c.loop-place.auto.place-end) in
    let last : n - 1 + 1 ≡ n = omega (arith, f.0) in
    let eh = word-at c.args.heads.now i c.index-heads-count.result c.as_slice-head-2.result.now (omega (arith, f.0, f.2)) c.index-heads-count.is c.as_slice-head-2.ensures in
    let ep = word-at c.args.pumps.now i c.index-pumps-count.result c.as_slice-pump-2.result.now (omega (arith, f.0, f.1)) c.index-pumps-count.is c.as_slice-pump-2.ensures in
    let el = word-at c.args.heads.now n c.index-heads-count-2.result c.as_slice-last.result.now (omega (arith, f.2)) c.index-heads-count-2.is c.as_slice-last.ensures in
    let a = c.args.a.now in
    let g = c.args.g.now in
    IfOk-weaker c.end_holds.result (λ yes. IsTrue yes ↔ IsEnd a (moves_in g) (pair_in g) g.graph.states c.loop-place.from (get_or c.args.anchors.now i no_anchor) c.as_slice-head-2.result.now c.as_slice-pump-2.result.now c.as_slice-last.result.now)
    (λ yes. IsTrue yes ↔ IsWay a (moves_in g) (pair_in g) g.graph.states 0 c.args.anchors.now c.args.heads.now c.args.pumps.now)
    (way-decided a (moves_in g) (pair_in g) g.graph.states c.args.anchors.now c.args.heads.now c.args.pumps.now f c.loop-place.from c.loop-place.place i
    c.as_slice-head-2.result.now c.as_slice-pump-2.result.now c.as_slice-last.result.now at last eh ep el c.loop-place.invariant.there c.loop-place.invariant.back) c.end_holds.ensures

pub loop-place-init : goal.loop-place-init
loop-place-init c = record { inside = c.requires.some; there = λ w. w; back = λ w. w }

pub bounds-anchors-place : goal.bounds-anchors-place
bounds-anchors-place c =
    let f : Fits (length c.args.anchors.now) (length c.args.heads.now) (length c.args.pumps.now) = c.fits.ensures.0 c.if-not-fits.false in
    omega (arith, c.loop-place-test.true, f.0)

pub bounds-heads-place : goal.bounds-heads-place
bounds-heads-place c =
    let f : Fits (length c.args.anchors.now) (length c.args.heads.now) (length c.args.pumps.now) = c.fits.ensures.0 c.if-not-fits.false in
    omega (arith, c.loop-place-test.true, f.0, f.2)

pub bounds-pumps-place : goal.bounds-pumps-place
bounds-pumps-place c =
    let f : Fits (length c.args.anchors.now) (length c.args.heads.now) (length c.args.pumps.now) = c.fits.ensures.0 c.if-not-fits.false in
    omega (arith, c.loop-place-test.true, f.0, f.1)

pub bounds-anchors-count : goal.bounds-anchors-count
bounds-anchors-count c =
    let f : Fits (length c.args.anchors.now) (length c.args.heads.now) (length c.args.pumps.now) = c.fits.ensures.0 c.if-not-fits.false in
    omega (arith, f.0)

pub bounds-heads-count : goal.bounds-heads-count
bounds-heads-count c =
    let f : Fits (length c.args.anchors.now) (length c.args.heads.now) (length c.args.pumps.now) = c.fits.ensures.0 c.if-not-fits.false in
    omega (arith, f.0, f.2)

pub bounds-pumps-count : goal.bounds-pumps-count
bounds-pumps-count c =
    let f : Fits (length c.args.anchors.now) (length c.args.heads.now) (length c.args.pumps.now) = c.fits.ensures.0 c.if-not-fits.false in
    omega (arith, f.0, f.1)

pub bounds-heads-count-2 : goal.bounds-heads-count-2
bounds-heads-count-2 c =
    let f : Fits (length c.args.anchors.now) (length c.args.heads.now) (length c.args.pumps.now) = c.fits.ensures.0 c.if-not-fits.false in
    omega (arith, f.2)

pub overflow_sub-place-end : goal.overflow_sub-place-end
overflow_sub-place-end c =
    let f : Fits (length c.args.anchors.now) (length c.args.heads.now) (length c.args.pumps.now) = c.fits.ensures.0 c.if-not-fits.false in
    omega (arith, f.0)

pub overflow_sub-count : goal.overflow_sub-count
overflow_sub-count c =
    let f : Fits (length c.args.anchors.now) (length c.args.heads.now) (length c.args.pumps.now) = c.fits.ensures.0 c.if-not-fits.false in
    omega (arith, f.0)

pub overflow_sub-count-2 : goal.overflow_sub-count-2
overflow_sub-count-2 c =
    let f : Fits (length c.args.anchors.now) (length c.args.heads.now) (length c.args.pumps.now) = c.fits.ensures.0 c.if-not-fits.false in
    omega (arith, f.0)

pub overflow_sub-count-3 : goal.overflow_sub-count-3
overflow_sub-count-3 c =
    let f : Fits (length c.args.anchors.now) (length c.args.heads.now) (length c.args.pumps.now) = c.fits.ensures.0 c.if-not-fits.false in
    omega (arith, f.0)

pub end_holds-requires-clause-letters : goal.end_holds-requires-clause-letters
end_holds-requires-clause-letters c = c.requires.letters

pub end_holds-requires-clause-from_in : goal.end_holds-requires-clause-from_in
end_holds-requires-clause-from_in c = c.loop-place.invariant.inside
