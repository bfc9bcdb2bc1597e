use Rattle.std.proofs.Common.{◌≡◌, ◌∙◌, ◌<◌, All, ap, subst, sym, true}
use Rattle.std.specs.List.{list_all}
use Rattle.std.specs.Prelude.{nat_lt}
use Rattle.std.specs.Str.{chars}
use Rattle.rl_asked.proofs.ValueLemmas.{text-codes}
use Rattle.rl_asked.proofs.values.is_text_of.Goals as goal

pub returns-clause-value : goal.returns-clause-value
returns-clause-value c = c.are_below.ensures ∙ ap (λ n. list_all (λ x. nat_lt x n) (chars c.args.text.now)) c.count.ensures

pub returns-clause-text : goal.returns-clause-text
returns-clause-text c = λ e.
    text-codes c.args.universe (chars c.args.text.now)
    (sym (c.are_below.ensures ∙ ap (λ n. list_all (λ x. nat_lt x n) (chars c.args.text.now)) c.count.ensures) ∙ e)
