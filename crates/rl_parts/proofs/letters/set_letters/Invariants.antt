-- The numbers so far and those of the letters that are left make up all numbers.
use Rattle.std.proofs.Common.{◌≡◌, ◌++◌, map}
use Rattle.std.proofs.Math.ListN.{drop}
use Rattle.serde_json.specs.View.{view}
use Rattle.rl_ranges.specs.Codes.{has}
use Rattle.rl_parts.specs.Members.{whole}
use Rattle.rl_parts.specs.Nodes.{letters_from}
use Rattle.rl_parts.proofs.letters.set_letters.Given as goal

abbrev pub invariant-loop-letter : goal.invariant-loop-letter
invariant-loop-letter l =
    map view l.numbers.items ++ map whole (letters_from l.letter (has l.set) (drop l.letter l.letters.samples))
    ≡ map whole (letters_from 0 (has l.set) l.letters.samples)
