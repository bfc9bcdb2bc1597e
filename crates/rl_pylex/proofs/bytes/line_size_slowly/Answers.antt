-- The run ends at the byte that is found, or at the end.
use Rattle.std.proofs.Common.{length, ap, ◌∙◌}
use Rattle.std.specs.Prelude.{unwrap_or}
use Rattle.rl_pylex.specs.Bytes.{in_line}
use Rattle.rl_pylex.proofs.Runs.{run}
use Rattle.rl_pylex.proofs.Searches.{line_place}
use Rattle.rl_pylex.proofs.bytes.line_size_slowly.Goals as goal

pub returns-clause-value : goal.returns-clause-value
returns-clause-value c =
    let text = c.args.text.now in
    c.unwrap_or.ensures ∙ ap (λ o. unwrap_or o (length text)) (line_place text c.memchr2.result c.memchr2.ensures) ∙ run in_line text
