use Rattle.std.proofs.Common.{◌≡◌, refl, ap, arith}
use Rattle.std.proofs.lemmas.List.{get_or_read}
use Rattle.rl_sets.specs.declared.rests.Way.{Way}
use Rattle.rl_sets.specs.internal.Search.{found_of, way_at, root_way}
use Rattle.rl_sets.proofs.ExpandLemmas.{tracing-search, tracing-route, tracing-more}
use Rattle.rl_sets.proofs.walk.SetWalk.trace.Goals as goal

pub loop-at-init : goal.loop-at-init
loop-at-init c = record { made = c.requires.made; limit = refl; sets = refl; within = c.requires.place_in; route_there = c.requires.route }

pub trace_back-requires : goal.trace_back-requires
trace_back-requires c =
    let i = c.loop-at.invariant in
    record { made = i.made; later = c.loop-at-test.true; place_in = i.within; search = tracing-search i c.requires.search; route = tracing-route c.loop-at.at i refl }

pub loop-at-preserved : goal.loop-at-preserved
loop-at-preserved c =
    let f = found_of c.args.search.now in
    let way : c.index-way.result.now ≡ way_at f c.loop-at.at = get_or_read f.ways c.loop-at.at c.index-way.result.now (omega (arith, c.loop-at.invariant.within, c.requires.search.paired)) c.index-way.ensures root_way in
    tracing-more c.trace_back.new.self c.in_ok-route.route c.index-way.result.now c.loop-at.invariant c.requires.search c.loop-at-test.true way c.trace_back.ensures.made c.trace_back.ensures.limit c.trace_back.ensures.sets c.in_ok-route.ensures.route

pub loop-at-smaller : goal.loop-at-smaller
loop-at-smaller c =
    let f = found_of c.args.search.now in
    let way : c.index-way.result.now ≡ way_at f c.loop-at.at = get_or_read f.ways c.loop-at.at c.index-way.result.now (omega (arith, c.loop-at.invariant.within, c.requires.search.paired)) c.index-way.ensures root_way in
    let step = c.requires.search.steps c.loop-at.at c.loop-at-test.true c.loop-at.invariant.within in
    omega (arith, step.earlier, ap (λ (x : Way). x.parent) way)

pub note_route-requires : goal.note_route-requires
note_route-requires c =
    let s = tracing-search c.loop-at.invariant c.requires.search in
    record { place_in = s.some; set_in = s.within 0 s.some }

pub returns-in_err-note_route-clause-made : goal.returns-in_err-note_route-clause-made
returns-in_err-note_route-clause-made c = c.note_route.ensures.made c.args.a.now c.loop-at.invariant.made (tracing-route 0 c.loop-at.invariant (omega arith))

pub returns-clause-made : goal.returns-clause-made
returns-clause-made c = c.note_route.ensures.made c.args.a.now c.loop-at.invariant.made (tracing-route 0 c.loop-at.invariant (omega arith))
