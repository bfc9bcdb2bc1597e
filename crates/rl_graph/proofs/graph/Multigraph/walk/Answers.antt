use Rattle.std.proofs.Common.{ℕ, ◌≡◌, Option, IfSome, subst, arith, rules}
use Rattle.rl_graph.specs.declared.walks.FoundPath.{FoundPath}
use Rattle.rl_graph.specs.Graph.{edges_of}
use Rattle.rl_graph.specs.Walks.{IsShortest}
use Rattle.rl_graph.proofs.TwinPaths.{path-counts}
use Rattle.rl_graph.proofs.graph.Multigraph.walk.Goals as goal

pub returns-in-Some-clause-found : goal.returns-in-Some-clause-found
returns-in-Some-clause-found c =
    let next = edges_of c.args.self.now in
    let p = c.in-Some.path in
    let a : c.from.result ≡ c.args.from = search rules in
    let b : c.from-2.result ≡ c.args.to = search rules in
    let f : IsShortest next 0 c.from.result c.from-2.result p.moves p.word =
    subst (λ (o : Option FoundPath). IfSome o (λ x. IsShortest next 0 c.from.result c.from-2.result x.moves x.word)) c.in-Some.is c.in_ok-path.ensures.found in
    let h = subst (λ (z : ℕ). IsShortest next 0 c.args.from z p.moves p.word) b (subst (λ (z : ℕ). IsShortest next 0 z c.from-2.result p.moves p.word) a f) in
    record { leads = path-counts next c.args.from c.args.to p.moves p.word h.path; shortest = λ v q. h.shortest v (omega arith) q }
