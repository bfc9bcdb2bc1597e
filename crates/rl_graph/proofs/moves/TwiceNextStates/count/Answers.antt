use Rattle.std.proofs.Common.{ℕ, ◌*◌, ◌/◌, ◌%◌, ◌≡◌, length, sym, ◌∙◌, ap, ap₂}
use Rattle.rl_graph.specs.Graph.{edges_of}
use Rattle.rl_graph.proofs.ProductLaws.{length-pairs}
use Rattle.rl_graph.proofs.moves.TwiceNextStates.count.Goals as goal

pub returns : goal.returns
returns c =
    let g = c.args.self.now.graph.now in
    let q = c.args.from in
    let l = c.args.letter in
    let e : c.from-count.result ≡ g.states = cc (c.from-count.ensures, c.states.ensures.number) in
    let x = c.edges-first.ensures.targets ∙ ap (λ (n : ℕ). edges_of g (q / n) l) e in
    let y = c.edges-second.ensures.targets ∙ ap (λ (n : ℕ). edges_of g (q % n) l) e in
    ap₂ (λ u v. length u * length v) x y ∙ sym (length-pairs g.states (edges_of g (q / g.states) l) (edges_of g (q % g.states) l))
