use Rattle.std.proofs.Common.{[], ◌∷◌, ◌++◌, map, sym, ap, ap₂, ◌∙◌}
use Rattle.std.proofs.lemmas.List.{map_more, take_all}
use Rattle.rl_ranges.specs.Letters.{letter_at}
use Rattle.rl_prio.proofs.build.codes.kinds_of.Goals as goal

pub loop-code-preserved : goal.loop-code-preserved
loop-code-preserved c =
    c.in_ok-push.ensures.items ∙ ap₂ (λ l x. l ++ x ∷ []) c.loop-code.invariant c.letter_of.ensures.value
    ∙ sym (map_more (letter_at c.args.kinds.now) c.args.codes.now c.loop-code.code-index _ c.loop-code-test.true)

pub returns : goal.returns
returns c =
    c.loop-code.invariant
    ∙ ap (map (letter_at c.args.kinds.now)) (take_all c.loop-code.code-index c.args.codes.now c.loop-code-test.false)
