use Rattle.std.proofs.Common.{◌≡◌, ◌*◌, List, ℕ, [], replicate, length, ◌∙◌, arith, sym, subst, ap}
use Rattle.std.proofs.lemmas.List.{length-replicate}
use Rattle.rl_graph.specs.Graph.{Graph, IsBare}
use Rattle.rl_graph.proofs.GraphLaws.{bare, whole-bare}
use Rattle.rl_graph.proofs.graph.Multigraph.new.Goals as goal

pub invariant_of-result : goal.invariant_of-result
invariant_of-result c =
    let s = c.args.states in
    let k = c.args.letters in
    let e : c.in_ok-rows.rows ≡ replicate (s * k) [] = c.in_ok-rows.ensures in
    let g : Graph = record { states = s; letters = k; rows = c.in_ok-rows.rows } in
    whole-bare g s k (subst (λ (r : List (List ℕ)). let h : Graph = record { states = s; letters = k; rows = r } in IsBare h s k) (sym e) (bare s k)) (omega arith) (omega arith) (ap length e ∙ length-replicate (s * k) [])
