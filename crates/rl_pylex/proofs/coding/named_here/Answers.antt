-- The name is what follows the gap after `coding`.
use Rattle.std.proofs.Common.{◌+◌, ◌∙◌, length, ap, sym, refl, arith}
use Rattle.std.proofs.lemmas.List.{length-drop}
use Rattle.rl_pylex.proofs.CodingLines.{named-none, named-is, named-some}
use Rattle.rl_pylex.proofs.coding.named_here.Goals as goal

pub returns-then-not-begins_coding-clause-value : goal.returns-then-not-begins_coding-clause-value
returns-then-not-begins_coding-clause-value c = named-none c.args.text.now c.if-not-begins_coding.ensures.value

pub returns-then-size-eq0-clause-value : goal.returns-then-size-eq0-clause-value
returns-then-size-eq0-clause-value c =
    named-is c.args.text.now _ _ _ 0 c.if-not-begins_coding.ensures.value c.rest_from.ensures c.gap_size-from.ensures.value c.rest_from-2.ensures (sym c.if-size-eq0.true ∙ c.coding_size-size.ensures.value)

pub rest_from-requires : goal.rest_from-requires
rest_from-requires c = c.if-not-begins_coding.ensures.within refl

pub rest_from-requires-2 : goal.rest_from-requires-2
rest_from-requires-2 c =
    omega (arith, c.gap_size-from.ensures.within, ap length c.rest_from.ensures, length-drop 7 c.args.text.now, c.if-not-begins_coding.ensures.within refl)

pub returns-else-size-eq0-clause-value : goal.returns-else-size-eq0-clause-value
returns-else-size-eq0-clause-value c =
    named-some c.args.text.now _ _ _ _ c.if-not-begins_coding.ensures.value c.rest_from.ensures c.gap_size-from.ensures.value c.rest_from-2.ensures c.coding_size-size.ensures.value c.if-size-eq0.false

pub returns-else-size-eq0-clause-within : goal.returns-else-size-eq0-clause-within
returns-else-size-eq0-clause-within c =
    omega (arith, c.coding_size-size.ensures.within, ap length c.rest_from-2.ensures, length-drop (7 + c.gap_size-from.result) c.args.text.now, c.gap_size-from.ensures.within, ap length c.rest_from.ensures, length-drop 7 c.args.text.now, c.if-not-begins_coding.ensures.within refl)
