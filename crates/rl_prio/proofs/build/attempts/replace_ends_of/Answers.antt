use Rattle.std.proofs.Common.{[], length, refl, subst, ◌≡◌, ◌∙◌}
use Rattle.std.proofs.lemmas.List.{get_or_read_under}
use Rattle.rl_prio.specs.internal.Attempts.{ends_replaced}
use Rattle.rl_prio.proofs.AttemptLemmas.{replaced_kept}
use Rattle.rl_prio.proofs.build.attempts.replace_ends_of.Goals as goal

pub returns-then-stays-clause-ok : goal.returns-then-stays-clause-ok
returns-then-stays-clause-ok c =
    let lists = c.args.lists.now.items in
    let read = get_or_read_under lists c.args.place (length lists) c.index.result.now [] c.index.ensures c.requires refl in
    replaced_kept c.args.further.now c.args.place lists
    (subst (λ l. ends_replaced l c.args.further.now ≡ l) (c.as_slice.ensures ∙ read) (c.if-stays.ensures.same refl c.args.further.now))
