use Rattle.std.proofs.Common.{[], ◌∷◌, ◌++◌, map, sym, ap, ap₂, ◌∙◌}
use Rattle.std.proofs.lemmas.List.{map_more, take_all}
use Rattle.rl_ranges.specs.Codes.{has}
use Rattle.rl_prio.proofs.build.codes.members_of.Goals as goal

pub loop-code-preserved : goal.loop-code-preserved
loop-code-preserved c =
    c.in_ok-push.ensures.items ∙ ap₂ (λ l x. l ++ x ∷ []) c.loop-code.invariant c.contains.ensures
    ∙ sym (map_more (has c.args.set.now) c.args.codes.now c.loop-code.code-index _ c.loop-code-test.true)

pub returns : goal.returns
returns c =
    c.from_vec.ensures ∙ c.loop-code.invariant
    ∙ ap (map (has c.args.set.now)) (take_all c.loop-code.code-index c.args.codes.now c.loop-code-test.false)
