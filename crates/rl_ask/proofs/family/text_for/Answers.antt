use Rattle.std.proofs.Common.{◌≡◌, ◌+◌, ◌∙◌, ap, ap₂, sym, subst, length, IfErr, IfOk}
use Rattle.std.specs.Str.{chars}
use Rattle.std.proofs.lemmas.List.{length-map}
use Rattle.serde_json.specs.View.{items_view}
use Rattle.rl_syntax.specs.Family.{pumped}
use Rattle.rl_asked.specs.Values.{texts_of}
use Rattle.rl_ask.specs.internal.Long.{IsLong}
use Rattle.rl_ask.proofs.family.text_for.Goals as goal

pub returns-clause-text : goal.returns-clause-text
returns-clause-text c =
    subst (λ w. IfOk c.string_of-text.result (λ text. text ≡ w)) (ap₂ (pumped c.args.k) c.in_ok-family.ensures.heads c.in_ok-family.ensures.pumps) c.string_of-text.ensures.text

pub returns-clause-long : goal.returns-clause-long
returns-clause-long c =
    subst (λ w. IfErr c.string_of-text.result (λ e. IsLong e w)) (ap₂ (pumped c.args.k) c.in_ok-family.ensures.heads c.in_ok-family.ensures.pumps) c.string_of-text.ensures.long
