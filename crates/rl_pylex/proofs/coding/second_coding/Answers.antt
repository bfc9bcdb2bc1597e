-- The coding in the second line counts if the first line is bare.
use Rattle.std.proofs.Common.{◌+◌, length, ap, arith}
use Rattle.std.proofs.lemmas.List.{length-drop}
use Rattle.rl_pylex.proofs.CodingLines.{second-none, second-is, place-within}
use Rattle.rl_pylex.proofs.coding.second_coding.Goals as goal

pub returns-then-not-is_bare-clause-value : goal.returns-then-not-is_bare-clause-value
returns-then-not-is_bare-clause-value c =
    second-none c.args.text.now _ c.line_of-first.ensures.value c.if-not-is_bare.ensures

pub returns-clause-value : goal.returns-clause-value
returns-clause-value c =
    second-is c.args.text.now _ _ _ _ _ _ _ c.line_of-first.ensures.value c.if-not-is_bare.ensures c.rest_from.ensures c.line_end.ensures.value c.rest_from-2.ensures c.line_of.ensures.value c.coding_of_line.ensures.value c.from_place.ensures

pub returns-clause-within : goal.returns-clause-within
returns-clause-within c =
    let text = c.args.text.now in
    place-within _ _ _ _ (length text) c.from_place.ensures c.coding_of_line.ensures.within
    (omega (arith, c.line_of.ensures.within, ap length c.rest_from-2.ensures, length-drop (length c.line_of-first.result.now + c.line_end.result) text, ap length c.rest_from.ensures, length-drop (length c.line_of-first.result.now) text, c.line_of-first.ensures.within, c.line_end.ensures.within))
