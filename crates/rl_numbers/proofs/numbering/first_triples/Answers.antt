use Rattle.std.proofs.Common.{ℕ, slice_index, subst}
use Rattle.std.proofs.lemmas.Result.{IfOk-weaker}
use Rattle.rl_graph.specs.Graph.{edges_of}
use Rattle.rl_graph.specs.Parts.{PartTable, IsParts, cycle_of}
use Rattle.rl_numbers.specs.Starts.{AreStartsUpTo}
use Rattle.rl_numbers.proofs.numbering.first_triples.Goals as goal

pub returns : goal.returns
returns c =
    let g = c.args.g.now in
    let rank = slice_index c.args.ranks.now in
    let parts = c.in_ok-components.components in
    IfOk-weaker c.starts_of.result (λ v. AreStartsUpTo c.states.result rank (cycle_of parts) c.states.result 0 v.items)
    (λ v. (components : PartTable) × IsParts (edges_of g) g.states components × AreStartsUpTo g.states rank (cycle_of components) g.states 0 v.items)
    (λ v starts. (parts, c.in_ok-components.ensures, subst (λ (n : ℕ). AreStartsUpTo n rank (cycle_of parts) n 0 v.items) c.states.ensures.number starts))
    c.starts_of.ensures
