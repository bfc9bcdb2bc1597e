use Rattle.std.proofs.Common.{◌≡◌, ◌*◌, true, false, replicate, get_or, ◌∙◌, ap, rules}
use Rattle.std.proofs.lemmas.List.{get_or-replicate}
use Rattle.std.proofs.lemmas.Result.{IfOk-weaker}
use Rattle.rl_graph.specs.Graph.{edges_of}
use Rattle.rl_graph.specs.Parts.{IsParts}
use Rattle.rl_graph.specs.Product.{pair_moves, marked_moves}
use Rattle.rl_graph.proofs.MarkedLaws.{marked-parts}
use Rattle.rl_graph.proofs.pairs.product_parts.Goals as goal

pub returns-in_ok-all-in-Some : goal.returns-in_ok-all-in-Some
returns-in_ok-all-in-Some c =
    let g = c.args.g.now in
    let n = g.states in
    let all = c.deref.result.now in
    let count : c.from-count.result ≡ n = c.from-count.ensures ∙ c.states.ensures.number in
    let e : all ≡ replicate (n * n) true = search rules in
    IfOk-weaker c.half_parts.result (IsParts (marked_moves (edges_of g) n all) (n * n)) (IsParts (pair_moves (edges_of g) n) (n * n))
    (λ p h. marked-parts g all (λ x. true) p (λ x lt. ap (λ z. get_or z x false) e ∙ get_or-replicate (n * n) x true false lt) h) c.half_parts.ensures
