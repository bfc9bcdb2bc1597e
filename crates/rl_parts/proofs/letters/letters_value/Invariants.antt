-- The values are those of the letters so far.
use Rattle.std.proofs.Common.{◌≡◌, map, take}
use Rattle.serde_json.specs.View.{view}
use Rattle.rl_parts.specs.Reply.{letter_data}
use Rattle.rl_parts.proofs.letters.letters_value.Given as goal

abbrev pub invariant-loop-letter : goal.invariant-loop-letter
invariant-loop-letter l = map view l.values.items ≡ map letter_data (take l.letter l.letters.samples)
