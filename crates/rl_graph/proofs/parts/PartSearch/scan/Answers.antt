use Rattle.std.proofs.Common.{ℕ, ◌<◌, length, sym, subst, ◌∙◌, ap, arith}
use Rattle.rl_graph.specs.Paths.{Has}
use Rattle.rl_graph.specs.internal.Search.{SearchState, search_state_of, place_of}
use Rattle.rl_graph.proofs.Sums.{Has-get_or}
use Rattle.rl_graph.proofs.ScanLaws.{top-in, met}
use Rattle.rl_graph.proofs.parts.PartSearch.scan.Goals as goal

pub count-count-requires-clause-state_in : goal.count-count-requires-clause-state_in
count-count-requires-clause-state_in g c =
    top-in (g.M.NextStates.next c.args.m.now) (g.M.NextStates.size c.args.m.now) (search_state_of c.args.self.now) c.args.frame.now c.requires.search

pub target-target-requires-clause-state_in : goal.target-target-requires-clause-state_in
target-target-requires-clause-state_in g c =
    top-in (g.M.NextStates.next c.args.m.now) (g.M.NextStates.size c.args.m.now) (search_state_of c.loop-frame.self) c.loop-frame.frame c.loop-frame.invariant.0

pub returns-then-meet-clause-found : goal.returns-then-meet-clause-found
returns-then-meet-clause-found g c =
    let row = g.M.NextStates.next c.args.m.now c.loop-frame.frame.state c.loop-frame.frame.letter in
    let lt : c.loop-frame.frame.number < length row = omega (arith, c.loop-frame.invariant.4) in
    let m = c.if-meet.ensures in
    record {
      within = c.target-target.ensures.inside;
      not_seen = ap (λ (z : SearchState). place_of z c.target-target.result) m.1 ∙ m.0;
      move = subst (λ (z : ℕ). Has z row) (sym c.target-target.ensures.target) (Has-get_or row c.loop-frame.frame.number 0 lt);
    }

pub loop-frame-preserved : goal.loop-frame-preserved
loop-frame-preserved g c =
    let i = c.loop-frame.invariant in
    let next = g.M.NextStates.next c.args.m.now in
    let row = next c.loop-frame.frame.state c.loop-frame.frame.letter in
    let lt : c.loop-frame.frame.number < length row = omega (arith, c.loop-frame.invariant.4) in
    let r = met next (g.M.NextStates.size c.args.m.now) (search_state_of c.loop-frame.self) (search_state_of c.meet.new.self) c.loop-frame.frame c.target-target.result i.0 lt c.target-target.ensures.target c.if-meet.ensures in
    (r.0, record { places = r.1.places ∙ i.1.places; frames = r.1.frames ∙ i.1.frames }, i.2, i.3, i.4, i.5)
