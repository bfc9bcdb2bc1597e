-- The first token, and what follows its brackets.
use Rattle.std.proofs.Common.{◌+◌, ◌∙◌, sym, ap, refl, ℕ}
use Rattle.rl_sites.specs.internal.Walks.{inside_size}
use Rattle.rl_sites.proofs.Tables.{next_more}
use Rattle.rl_sites.proofs.brackets.next_size.Goals as goal

pub returns : goal.returns
returns c =
    ap (λ (n : ℕ). 1 + c.jump_size-inner.result + n) (c.size_inside.ensures.value ∙ ap (inside_size c.args.source.now 0) c.rest_from.ensures)
    ∙ next_more c.args.source.now _ _ c.args.rest.now c.rest_from-after.result.now c.jump_size-inner.result
    c.requires.some refl (sym c.only_closes.ensures ∙ c.if-only_closes.false) c.rest_from-after.ensures c.jump_size-inner.ensures.value
