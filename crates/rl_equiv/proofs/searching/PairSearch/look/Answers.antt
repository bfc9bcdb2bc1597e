use Rattle.std.proofs.Common.{◌∙◌, length, ap, sym, arith}
use Rattle.rl_equiv.specs.internal.Searching.{state_of, is_apart}
use Rattle.rl_equiv.proofs.SearchLaws.{still-found}
use Rattle.rl_equiv.proofs.SeenLaws.{seen-start, seen-more-at, calm-more, apart-last, stop-parts, calm-from}
use Rattle.rl_equiv.proofs.searching.PairSearch.look.Goals as goal

pub loop-seen-init : goal.loop-seen-init
loop-seen-init c = (
  seen-start c.args.a.now c.args.b.now (state_of c.args.self.now) c.new-seen.result.items c.requires.search c.requires.one c.new-seen.ensures.items,
  λ e k lt. absurd (omega (arith, ap length c.new-seen.ensures.items)),
)

pub ends-requires-clause-search : goal.ends-requires-clause-search
ends-requires-clause-search c = c.loop-seen.invariant.0.search

pub returns-then-stops-clause-seen : goal.returns-then-stops-clause-seen
returns-then-stops-clause-seen c =
    seen-more-at c.args.a.now c.args.b.now c.args.self.now.limit (state_of c.loop-seen.self) (state_of c.ends.new.self) (state_of c.expand.new.self) c.loop-seen.seen.items c.push.new.self.items c.in_ok-ends.ends c.len-place.result (omega (arith, c.len-place.ensures, c.loop-seen.seen.ok)) c.loop-seen.invariant.0
    (omega (arith, c.len.ensures, c.len-place.ensures, c.len-in-loop-seen.ensures.len, c.loop-seen-test.true)) (omega (arith, c.if-place-self.false, c.loop-seen.invariant.0.limit_is))
    c.in_ok-ends.ensures.limit c.in_ok-ends.ensures.pairs c.in_ok-ends.ensures.ways c.in_ok-ends.ensures.ends c.in_ok-expand.ensures.onward c.in_ok-expand.ensures.reached c.in_ok-push.ensures.items

pub returns-then-stops-clause-apart : goal.returns-then-stops-clause-apart
returns-then-stops-clause-apart c = λ e.
    let stop = stop-parts c.args.all (is_apart c.in_ok-ends.ends) (sym c.stops.ensures ∙ c.if-stops.true) in
    apart-last c.args.self.now.limit (state_of c.expand.new.self) c.loop-seen.seen.items c.push.new.self.items c.in_ok-ends.ends (c.loop-seen.invariant.1 e) stop.1 c.in_ok-push.ensures.items

pub loop-seen-preserved : goal.loop-seen-preserved
loop-seen-preserved c = (
  seen-more-at c.args.a.now c.args.b.now c.args.self.now.limit (state_of c.loop-seen.self) (state_of c.ends.new.self) (state_of c.expand.new.self) c.loop-seen.seen.items c.push.new.self.items c.in_ok-ends.ends c.len-place.result (omega (arith, c.len-place.ensures, c.loop-seen.seen.ok)) c.loop-seen.invariant.0
      (omega (arith, c.len.ensures, c.len-place.ensures, c.len-in-loop-seen.ensures.len, c.loop-seen-test.true)) (omega (arith, c.if-place-self.false, c.loop-seen.invariant.0.limit_is))
      c.in_ok-ends.ensures.limit c.in_ok-ends.ensures.pairs c.in_ok-ends.ensures.ways c.in_ok-ends.ensures.ends c.in_ok-expand.ensures.onward c.in_ok-expand.ensures.reached c.in_ok-push.ensures.items,
  calm-more c.args.all c.loop-seen.seen.items c.push.new.self.items c.in_ok-ends.ends c.loop-seen.invariant.1 (calm-from c.args.all (is_apart c.in_ok-ends.ends) (sym c.stops.ensures ∙ c.if-stops.false)) c.in_ok-push.ensures.items,
)

pub expand-requires-clause-place_in : goal.expand-requires-clause-place_in
expand-requires-clause-place_in c =
    still-found (state_of c.loop-seen.self) (state_of c.ends.new.self) c.len-place.result c.in_ok-ends.ensures.pairs (omega (arith, c.len.ensures, c.len-place.ensures, c.len-in-loop-seen.ensures.len, c.loop-seen-test.true))
