use Rattle.std.proofs.Common.{[], ◌∷◌, ◌++◌, map, take, get_or, sym, ap, ap₂, ◌∙◌, append_assoc}
use Rattle.std.proofs.lemmas.List.{map_more, take_all}
use Rattle.rl_prio.specs.internal.Attempts.{behind}
use Rattle.rl_prio.proofs.build.attempts.put_behind.Goals as goal

pub loop-attempt-preserved : goal.loop-attempt-preserved
loop-attempt-preserved c =
    let further = c.args.further.now in
    let f = behind c.args.guards in
    let i = c.loop-attempt.attempt-index in (
      c.in_ok-put.ensures.put ∙ ap₂ (λ l x. l ++ x ∷ []) c.loop-attempt.invariant.0 c.behind.ensures
          ∙ append_assoc c.args.list.now (map f (take i further)) (f (get_or further i _) ∷ [])
          ∙ ap (λ l. c.args.list.now ++ l) (sym (map_more f further i _ c.loop-attempt-test.true)),
      λ _. c.in_ok-put.ensures.short,
    )

pub returns-clause-put : goal.returns-clause-put
returns-clause-put c =
    c.loop-attempt.invariant.0
    ∙ ap (λ l. c.args.list.now ++ map (behind c.args.guards) l) (take_all c.loop-attempt.attempt-index c.args.further.now c.loop-attempt-test.false)
