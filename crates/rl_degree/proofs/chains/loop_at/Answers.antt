use Rattle.std.proofs.Common.{ℕ, ◌∷◌, ◌≤◌, sym, subst, arith}
use Rattle.rl_graph.specs.Graph.{edges_of}
use Rattle.rl_graph.specs.Paths.{paths}
use Rattle.rl_graph.proofs.TwinPaths.{path-counts}
use Rattle.rl_degree.proofs.chains.loop_at.Goals as goal

pub unreachable-requires : goal.unreachable-requires
unreachable-requires c =
    let next = edges_of c.args.g.now in
    let none = rw c.in-None.is at c.in_ok-path.ensures.none in
    let round = (c.requires.parts.on_cycle c.args.state c.requires.state_in).0 c.requires.cycle in
    none (round.0 ∷ round.1) (omega arith) (subst (λ (z : ℕ). 1 ≤ paths next z z (round.0 ∷ round.1)) (sym c.from.ensures) round.2)

pub returns : goal.returns
returns c =
    let next = edges_of c.args.g.now in
    let p = c.in-Some.path in
    let f = rw c.in-Some.is at c.in_ok-path.ensures.found in
    record {
      state_in = c.requires.state_in;
      some = f.long;
      back = subst (λ (z : ℕ). 1 ≤ paths next z z p.word) c.from.ensures (path-counts next c.from.result c.from.result p.moves p.word f.path);
    }
