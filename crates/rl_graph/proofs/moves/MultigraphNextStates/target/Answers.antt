use Rattle.std.proofs.Common.{ℕ, List, sym, subst, ◌≡◌, ap, ◌∙◌, get_or}
use Rattle.rl_graph.specs.Graph.{edges_of}
use Rattle.rl_graph.specs.Paths.{Has}
use Rattle.rl_graph.proofs.Sums.{Has-get_or}
use Rattle.rl_graph.proofs.moves.MultigraphNextStates.target.Goals as goal

pub returns-clause-inside : goal.returns-clause-inside
returns-clause-inside c =
    let row = edges_of c.args.self.now c.args.from c.args.letter in
    let e : c.from.result ≡ get_or row c.args.number 0 = c.from.ensures ∙ ap (λ (r : List ℕ). get_or r c.args.number 0) c.edges.ensures.targets in
    c.edges.ensures.whole.targets c.args.from c.args.letter c.from.result (subst (λ (x : ℕ). Has x row) (sym e) (Has-get_or row c.args.number 0 c.requires.number_in))
