use Rattle.std.proofs.Common.{◌∙◌, sym, arith}
use Rattle.rl_words.proofs.ValueLemmas.{too_large}
use Rattle.rl_words.proofs.values.number_of.Goals as goal

pub returns-in-Err-clause-value : goal.returns-in-Err-clause-value
returns-in-Err-clause-value c =
    too_large c.args.digits c.args.range c.args.text.now c.in-Err.field-0
    (sym c.is_numeral.ensures ∙ c.if-not-is_numeral.false) c.in-Err.ensures.value.0 (omega arith)
