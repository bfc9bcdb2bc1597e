use Rattle.std.proofs.Common.{ℕ, sym, subst, arith}
use Rattle.rl_graph.proofs.Sums.{at-get_or}
use Rattle.rl_numbers.specs.internal.Spreading.{IsFinding}
use Rattle.rl_numbers.proofs.ReachLaws.{search-start, search-inside, search-more, search-over, search-end}
use Rattle.rl_numbers.proofs.reach.reached.Goals as goal

pub loop-place-init : goal.loop-place-init
loop-place-init g c =
    let next = g.M.NextStates.next c.args.m.now in
    record {
      few = c.in_ok-keys.ensures.few;
      search = search-start next (g.M.NextStates.size c.args.m.now) c.args.limit c.args.starts.now c.in_ok-keys.keys.keys
          (subst (λ (n : ℕ). IsFinding next n c.args.starts.now c.args.limit c.in_ok-keys.keys.keys) c.states.ensures.number (c.in_ok-keys.ensures.starts next)) c.in_ok-keys.ensures.all;
    }

pub spread-requires-clause-from_in : goal.spread-requires-clause-from_in
spread-requires-clause-from_in g c =
    search-inside (g.M.NextStates.next c.args.m.now) (g.M.NextStates.size c.args.m.now) c.args.limit c.loop-place.place c.index-from.result.now c.args.starts.now c.loop-place.keys.keys c.loop-place.invariant.search
    (omega (arith, c.len.ensures.len, c.loop-place-test.true)) (sym (at-get_or c.loop-place.keys.keys c.loop-place.place c.index-from.result.now 0 c.index-from.ensures))

pub returns-in-Err-clause-too_many : goal.returns-in-Err-clause-too_many
returns-in-Err-clause-too_many g c e =
    search-over (g.M.NextStates.next c.args.m.now) (g.M.NextStates.size c.args.m.now) c.args.limit c.loop-place.place c.index-from.result.now c.args.starts.now c.loop-place.keys.keys c.loop-place.invariant.search
    (omega (arith, c.len.ensures.len, c.loop-place-test.true)) (sym (at-get_or c.loop-place.keys.keys c.loop-place.place c.index-from.result.now 0 c.index-from.ensures)) (c.in-Err.ensures.too_many e)

pub loop-place-preserved : goal.loop-place-preserved
loop-place-preserved g c = record {
  few = c.in-Ok.ensures.few;
  search = search-more (g.M.NextStates.next c.args.m.now) (g.M.NextStates.size c.args.m.now) c.args.limit c.loop-place.place c.index-from.result.now c.args.starts.now c.loop-place.keys.keys c.spread.new.keys.keys c.loop-place.invariant.search
      (omega (arith, c.len.ensures.len, c.loop-place-test.true)) (sym (at-get_or c.loop-place.keys.keys c.loop-place.place c.index-from.result.now 0 c.index-from.ensures)) c.in-Ok.ensures.spreads;
}

pub returns-clause-reach : goal.returns-clause-reach
returns-clause-reach g c =
    search-end (g.M.NextStates.next c.args.m.now) (g.M.NextStates.size c.args.m.now) c.args.limit c.loop-place.place c.args.starts.now c.loop-place.keys.keys (omega (arith, c.len.ensures.len, c.loop-place-test.false)) c.loop-place.invariant.search

pub spread-requires-clause-few : goal.spread-requires-clause-few
spread-requires-clause-few g c = c.loop-place.invariant.few

pub returns-clause-few : goal.returns-clause-few
returns-clause-few g c = c.loop-place.invariant.few

pub returns-clause-inside : goal.returns-clause-inside
returns-clause-inside g c = c.loop-place.invariant.search.finding.inside

pub started-requires : goal.started-requires
started-requires g c = rw c.states.ensures.number c.requires

pub loop-place-smaller : goal.loop-place-smaller
loop-place-smaller g c = omega (arith, c.len.ensures.len, c.loop-place-test.true, c.loop-place.invariant.few)

pub index-from-requires : goal.index-from-requires
index-from-requires g c = omega (arith, c.len.ensures.len, c.loop-place-test.true)
