-- The run ends at the byte that is found, or at the end.
use Rattle.std.proofs.Common.{length, ap, ◌∙◌}
use Rattle.std.specs.Prelude.{unwrap_or}
use Rattle.rl_pylex.specs.internal.Bodies.{is_long_plain}
use Rattle.rl_pylex.proofs.Runs.{run}
use Rattle.rl_pylex.proofs.Searches.{long_place}
use Rattle.rl_pylex.proofs.literals.long_plain_size.Goals as goal

pub returns-clause-value : goal.returns-clause-value
returns-clause-value c =
    let text = c.args.text.now in
    c.unwrap_or.ensures ∙ ap (λ o. unwrap_or o (length text)) (long_place c.args.quote text c.memchr2.result c.memchr2.ensures) ∙ run (is_long_plain c.args.quote) text
