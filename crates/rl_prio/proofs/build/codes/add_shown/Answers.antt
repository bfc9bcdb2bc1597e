use Rattle.std.proofs.Common.{[], ◌∷◌, ◌++◌, map, get_or, sym, ap, ap₂, ◌∙◌, append_assoc, take}
use Rattle.std.proofs.lemmas.List.{map_more, take_all}
use Rattle.rl_prio.specs.internal.GuardSets.{code_shown}
use Rattle.rl_prio.proofs.build.codes.add_shown.Goals as goal

pub loop-code-preserved : goal.loop-code-preserved
loop-code-preserved c =
    let codes = c.args.codes.now in
    let old = c.args.list.now.items in
    let i = c.loop-code.code-index in
    let f = code_shown c.args.kinds.now in
    c.in_ok-push.ensures.items ∙ ap₂ (λ l x. l ++ x ∷ []) c.loop-code.invariant c.shown.ensures
    ∙ append_assoc old (map f (take i codes)) (f (get_or codes i 0) ∷ [])
    ∙ ap (λ l. old ++ l) (sym (map_more f codes i 0 c.loop-code-test.true))

pub returns : goal.returns
returns c =
    c.loop-code.invariant
    ∙ ap (λ l. c.args.list.now.items ++ map (code_shown c.args.kinds.now) l) (take_all c.loop-code.code-index c.args.codes.now c.loop-code-test.false)
