use Rattle.std.proofs.Common.{◌≤◌, length, ◌∙◌}
use Rattle.rl_graph.specs.internal.Search.{search_state_of}
use Rattle.rl_graph.proofs.SearchLaws.{turn}
use Rattle.rl_graph.proofs.ScanLaws.{none-end, top-in}
use Rattle.rl_graph.proofs.parts.PartSearch.advance.Goals as goal

pub loop-frame-preserved : goal.loop-frame-preserved
loop-frame-preserved g c =
    let next = g.M.NextStates.next c.args.m.now in
    let f = c.scan-found.new.frame in
    let kept = c.scan-found.ensures.kept in
    let end = none-end c.scan-found.result (length (next f.state f.letter) ≤ f.number) (cc (c.is_some.ensures, c.if-is_some.false)) c.scan-found.ensures.end in (
      turn next (g.M.NextStates.size c.args.m.now) (search_state_of c.scan-found.new.self) f c.scan-found.ensures.search end,
      record { places = kept.places ∙ c.loop-frame.invariant.1.places; frames = kept.frames ∙ c.loop-frame.invariant.1.frames },
      c.scan-found.ensures.state ∙ c.loop-frame.invariant.2,
    )

pub end_letter-end-requires : goal.end_letter-end-requires
end_letter-end-requires g c =
    top-in (g.M.NextStates.next c.args.m.now) (g.M.NextStates.size c.args.m.now) (search_state_of c.args.self.now) c.args.frame.now c.requires.search
