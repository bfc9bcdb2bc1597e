-- The name lies within the line, after its blanks.
use Rattle.std.proofs.Common.{length, ap, arith}
use Rattle.std.proofs.lemmas.List.{length-drop}
use Rattle.rl_pylex.proofs.CodingLines.{place-within}
use Rattle.rl_pylex.proofs.coding.coding_of_line.Goals as goal

pub returns-then-starts_with-clause-within : goal.returns-then-starts_with-clause-within
returns-then-starts_with-clause-within c =
    let line = c.args.line.now in
    place-within _ _ _ _ (length line) c.from_place.ensures c.first_named.ensures.within
    (omega (arith, ap length c.rest_from-comment.ensures, length-drop c.blank_size-blanks.result line, c.blank_size-blanks.ensures.within))
