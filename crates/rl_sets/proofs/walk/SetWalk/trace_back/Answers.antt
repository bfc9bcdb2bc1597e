use Rattle.std.proofs.Common.{◌≡◌, arith}
use Rattle.std.proofs.lemmas.List.{get_or_read}
use Rattle.rl_sets.specs.internal.Search.{found_of, way_at, root_way}
use Rattle.rl_sets.proofs.ExpandLemmas.{trace-step}
use Rattle.rl_sets.proofs.walk.SetWalk.trace_back.Goals as goal

pub note_route-requires-clause-set_in : goal.note_route-requires-clause-set_in
note_route-requires-clause-set_in c = c.requires.search.within c.args.at c.requires.place_in

pub returns-in_err-note_route-clause-made : goal.returns-in_err-note_route-clause-made
returns-in_err-note_route-clause-made c = c.note_route.ensures.made c.args.a.now c.requires.made c.requires.route

pub returns-in_err-number-clause-made : goal.returns-in_err-number-clause-made
returns-in_err-number-clause-made c = c.put_route.ensures.made c.args.a.now (c.note_route.ensures.made c.args.a.now c.requires.made c.requires.route)

pub returns-clause-made : goal.returns-clause-made
returns-clause-made c = c.put_route.ensures.made c.args.a.now (c.note_route.ensures.made c.args.a.now c.requires.made c.requires.route)

pub returns-clause-route : goal.returns-clause-route
returns-clause-route c =
    let f = found_of c.args.search.now in
    let way : c.index-way.result.now ≡ way_at f c.args.at = get_or_read f.ways c.args.at c.index-way.result.now (omega (arith, c.requires.place_in, c.requires.search.paired)) c.index-way.ensures root_way in
    trace-step c.args.a.now c.args.self.now c.note_route.new.self c.put_route.new.self f c.args.at c.args.route c.in_ok-number.number c.index-way.result.now c.states-states.ensures.automaton c.requires.search c.requires.later c.requires.place_in way c.requires.route c.note_route.ensures.routes c.in_ok-number.ensures.put c.in_ok-number.ensures.number
