-- The size is the sum of the prefix, the opening quotes and the bytes up to the end of the closing quotes.
use Rattle.std.proofs.Common.{◌+◌, length, ap, refl, arith, Some, None, ◌∙◌}
use Rattle.std.proofs.lemmas.List.{length-drop}
use Rattle.rl_pylex.proofs.Fronts.{size_is, quote_at}
use Rattle.rl_pylex.proofs.literals.size_after.Goals as goal

pub returns-in_err-close-clause-value : goal.returns-in_err-close-clause-value
returns-in_err-close-clause-value c =
    c.from_residual.ensures ∙ size_is c.args.n _ _ c.args.text.now _ _ None c.rest_from.ensures c.quote_count-quotes.ensures.value c.rest_from-2.ensures refl c.in_err-close.ensures.value

pub returns-clause-value : goal.returns-clause-value
returns-clause-value c =
    size_is c.args.n _ _ c.args.text.now _ _ (Some _) c.rest_from.ensures c.quote_count-quotes.ensures.value c.rest_from-2.ensures refl c.in_ok-close.ensures.value

pub close_from-requires-clause-counts : goal.close_from-requires-clause-counts
close_from-requires-clause-counts c = c.quote_count-quotes.ensures.counts

pub close_from-requires-clause-quotes : goal.close_from-requires-clause-quotes
close_from-requires-clause-quotes c = quote_at c.args.n c.args.text.now c.requires.quote

pub returns-clause-within : goal.returns-clause-within
returns-clause-within c =
    omega (arith, c.in_ok-close.ensures.within, ap length c.rest_from-2.ensures, length-drop (c.args.n + c.quote_count-quotes.result) c.args.text.now, ap length c.rest_from.ensures, length-drop c.args.n c.args.text.now, c.quote_count-quotes.ensures.within, c.requires.within)
