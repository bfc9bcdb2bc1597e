use Rattle.std.proofs.Common.{sym, subst, arith}
use Rattle.rl_graph.specs.internal.Search.{SearchState, search_state_of, IsSearch}
use Rattle.rl_graph.proofs.SearchEnds.{open_root, alone}
use Rattle.rl_graph.proofs.PartLaws.{no-more}
use Rattle.rl_graph.proofs.parts.PartSearch.visit.Goals as goal

pub returns-then-end_letter-eq0-clause-search : goal.returns-then-end_letter-eq0-clause-search
returns-then-end_letter-eq0-clause-search g c =
    let next = g.M.NextStates.next c.args.m.now in
    let n = g.M.NextStates.size c.args.m.now in
    let idle = no-more next n (g.M.NextStates.width c.args.m.now) c.end_letter.result c.args.root c.states-states.ensures.bounded c.end_letter.ensures.none in
    subst (λ (z : SearchState). IsSearch next n z) (sym c.close_alone.ensures)
    (alone next n (search_state_of c.args.self.now) c.args.root c.requires.search c.requires.frames c.requires.root_in c.requires.not_seen (λ l. idle l (omega arith)))

pub run-requires : goal.run-requires
run-requires g c =
    let next = g.M.NextStates.next c.args.m.now in
    let n = g.M.NextStates.size c.args.m.now in
    record { search = subst (λ (z : SearchState). IsSearch next n z) (sym c.in_ok-open.ensures) (open_root next n (search_state_of c.args.self.now) c.args.root c.requires.search c.requires.frames c.requires.root_in c.requires.not_seen) }
