use Rattle.std.proofs.Common.{◌≡◌, List, Contains, IsTrue, ◌↔◌, subst}
use Rattle.rl_equiv.specs.declared.pair.SetPair.{SetPair}
use Rattle.rl_equiv.specs.declared.index.Sets.{Sets}
use Rattle.rl_equiv.specs.internal.Index.{pair_of_sets}
use Rattle.rl_equiv.proofs.IndexLaws.{found-there}
use Rattle.rl_equiv.proofs.index.Index.has.Goals as goal

pub returns : goal.returns
returns c =
    let p : SetPair = record { first = c.args.first; second = c.args.second } in
    let sets : Sets = record { first = c.into_vec.result; second = c.into_vec-2.result } in
    let f = c.into_vec.ensures in
    let g = c.into_vec-2.ensures in
    let is : pair_of_sets sets ≡ p = λ i. record { first = f i; second = g i } in
    subst (λ (l : List SetPair). IsTrue c.contains.result ↔ Contains l p) c.self.view_is (found-there c.self.inside.pairs.keys sets p c.contains.result c.contains.ensures is)
