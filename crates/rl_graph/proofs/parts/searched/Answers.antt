use Rattle.std.proofs.Common.{ℕ, sym, subst, arith, ap}
use Rattle.rl_graph.specs.internal.Search.{SearchState, search_state_of, start_of, IsSearch}
use Rattle.rl_graph.proofs.SearchEnds.{started}
use Rattle.rl_graph.proofs.PartLaws.{all-done}
use Rattle.rl_graph.proofs.parts.searched.Goals as goal

pub loop-root-init : goal.loop-root-init
loop-root-init g c =
    let next = g.M.NextStates.next c.args.m.now in
    let n = g.M.NextStates.size c.args.m.now in
    let e = c.in_ok-search.ensures in (
      subst (λ (z : SearchState). IsSearch next n z) (sym e) (subst (λ (z : ℕ). IsSearch next n (start_of z)) (sym c.states-count.ensures.number) (started next n)),
      ap (λ (z : SearchState). z.frames) e,
      λ q h. absurd (omega arith),
    )

pub returns-clause-done : goal.returns-clause-done
returns-clause-done g c =
    let i = c.loop-root.invariant in
    all-done (g.M.NextStates.next c.args.m.now) (g.M.NextStates.size c.args.m.now) (search_state_of c.loop-root.search) i.0 i.1 (λ q h. i.2 q (omega (arith, c.states-count.ensures.number)))
