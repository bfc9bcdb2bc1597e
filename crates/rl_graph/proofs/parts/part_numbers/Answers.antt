use Rattle.std.proofs.Common.{List, ◌≡◌, ◌∙◌, ap, map}
use Rattle.std.proofs.lemmas.Result.{IfOk-weaker}
use Rattle.rl_graph.specs.internal.InnerMoves.{IsNumbered}
use Rattle.rl_graph.specs.internal.Search.{search_state_of, part_in}
use Rattle.rl_graph.specs.declared.parts.SearchPlace.{SearchPlace}
use Rattle.rl_graph.proofs.PartLaws.{numbered}
use Rattle.rl_graph.proofs.parts.part_numbers.Goals as goal

pub returns : goal.returns
returns g c =
    let next = g.M.NextStates.next c.args.m.now in
    let n = g.M.NextStates.size c.args.m.now in
    let s = c.in_ok-search.ensures in
    IfOk-weaker c.numbers_in.result (λ v. v.items ≡ map part_in c.deref.result.now) (λ v. IsNumbered next n v.items)
    (λ v e. numbered next n (search_state_of c.in_ok-search.search) v.items s.search s.done (e ∙ ap (λ (z : List SearchPlace). map part_in z) c.deref.ensures.value)) c.numbers_in.ensures
