use Rattle.std.proofs.Common.{ℕ, ◌*◌, ◌/◌, ◌%◌, ◌<◌, ◌≡◌, length, get_or, sym, subst, ◌∙◌, ap, ap₂}
use Rattle.rl_graph.specs.Graph.{edges_of}
use Rattle.rl_graph.specs.Paths.{Has}
use Rattle.rl_graph.specs.Product.{pair_moves}
use Rattle.rl_graph.proofs.Sums.{Has-get_or}
use Rattle.rl_graph.proofs.GraphLaws.{bounded-whole}
use Rattle.rl_graph.proofs.ProductLaws.{length-pairs, bounded-pairs, pairs_of}
use Rattle.rl_graph.proofs.moves.TwiceNextStates.target.Goals as goal

pub chosen-requires-clause-number_in : goal.chosen-requires-clause-number_in
chosen-requires-clause-number_in c =
    let g = c.args.self.now.graph.now in
    let q = c.args.from in
    let l = c.args.letter in
    let e : c.from-count.result ≡ g.states = cc (c.from-count.ensures, c.states.ensures.number) in
    let x = c.edges-first.ensures.targets ∙ ap (λ (n : ℕ). edges_of g (q / n) l) e in
    let y = c.edges-second.ensures.targets ∙ ap (λ (n : ℕ). edges_of g (q % n) l) e in
    let n : length (pair_moves (edges_of g) g.states q l) ≡ length c.edges-first.result.now * length c.edges-second.result.now =
    length-pairs g.states (edges_of g (q / g.states) l) (edges_of g (q % g.states) l) ∙ sym (ap₂ (λ u v. length u * length v) x y) in
    subst (λ (k : ℕ). c.args.number < k) n c.requires.number_in

pub returns-clause-target : goal.returns-clause-target
returns-clause-target c =
    let g = c.args.self.now.graph.now in
    let q = c.args.from in
    let l = c.args.letter in
    let e : c.from-count.result ≡ g.states = cc (c.from-count.ensures, c.states.ensures.number) in
    let x = c.edges-first.ensures.targets ∙ ap (λ (n : ℕ). edges_of g (q / n) l) e in
    let y = c.edges-second.ensures.targets ∙ ap (λ (n : ℕ). edges_of g (q % n) l) e in
    c.chosen.ensures ∙ (ap (λ (n : ℕ). get_or (pairs_of n c.edges-second.result.now c.edges-first.result.now) c.args.number 0) e ∙ ap₂ (λ u v. get_or (pairs_of g.states v u) c.args.number 0) x y)

pub returns-clause-inside : goal.returns-clause-inside
returns-clause-inside c =
    let g = c.args.self.now.graph.now in
    let row = pair_moves (edges_of g) g.states c.args.from c.args.letter in
    let e : c.chosen.result ≡ get_or row c.args.number 0 = returns-clause-target c in
    let b = bounded-pairs (edges_of g) g.states g.letters (bounded-whole g c.states.ensures.whole) in
    b.targets c.args.from c.args.letter c.chosen.result (subst (λ (z : ℕ). Has z row) (sym e) (Has-get_or row c.args.number 0 c.requires.number_in))
