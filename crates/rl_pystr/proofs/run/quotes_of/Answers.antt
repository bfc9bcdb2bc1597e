-- A quote follows the prefix of a literal.
use Rattle.std.proofs.Common.{arith, ap, length}
use Rattle.std.proofs.lemmas.List.{length-drop}
use Rattle.rl_pystr.proofs.Bounds.{letters_room}
use Rattle.rl_pystr.proofs.run.quotes_of.Goals as goal

pub quote_count-requires : goal.quote_count-requires
quote_count-requires c =
    omega (arith, letters_room c.args.text.now c.requires, length-drop c.letter_count.result c.args.text.now, ap length c.rest_from.ensures, c.letter_count.ensures.value)
