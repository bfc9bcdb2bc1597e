use Rattle.std.proofs.Common.{◌≡◌, ◌∙◌, map, ap, ap₂}
use Rattle.rl_equiv.specs.declared.index.Sets.{Sets}
use Rattle.rl_equiv.specs.Numbering.{with_one}
use Rattle.rl_equiv.specs.internal.Index.{pair_of_sets}
use Rattle.rl_equiv.proofs.IndexLaws.{put-one}
use Rattle.rl_equiv.proofs.index.Index.add.Goals as goal

pub returns : goal.returns
returns c =
    let f = c.in_ok-first.ensures.items ∙ c.as_slice.ensures in
    let g = c.in_ok-second.ensures.items ∙ c.as_slice-2.ensures in
    let sets : Sets = record { first = c.in_ok-first.first; second = c.in_ok-second.second } in
    let is : pair_of_sets sets ≡ c.args.pair.now = λ i. record { first = f i; second = g i } in
    ap (map pair_of_sets) c.in_ok-insert.ensures.keys ∙ put-one c.self.inside.pairs.keys sets ∙ ap₂ with_one c.self.view_is is
