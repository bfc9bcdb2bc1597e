-- One more digit than after it.
use Rattle.std.proofs.Common.{◌-◌, ◌∙◌, sym, ap}
use Rattle.std.specs.Prelude.{min}
use Rattle.std.specs.List.{prefix_len}
use Rattle.std.proofs.lemmas.List.{get_or_read}
use Rattle.rl_pystr.specs.Escapes.{is_octal}
use Rattle.rl_pystr.proofs.Bodies.{behind_first}
use Rattle.rl_pystr.proofs.Numbers.{octal_more}
use Rattle.rl_pystr.proofs.digits.+octal_size.Goals as goal

pub returns-in-len1-up-clause-value : goal.returns-in-len1-up-clause-value
returns-in-len1-up-clause-value t c =
    let text = c.args.text.now in
    octal_more c.args.most c.octal_size.result text c.if-most-gt0.true c.in-len1-up.len_at_least
    (ap is_octal (sym (get_or_read text _ _ c.in-len1-up.len_at_least c.digit-item.is 0)) ∙ sym c.is_octal.ensures ∙ c.if-is_octal.true)
    (c.octal_size.ensures.value ∙ ap (λ xs. min (c.args.most - 1) (prefix_len is_octal xs)) (behind_first text))
