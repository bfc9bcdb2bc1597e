-- Errors of letters, translated into errors of automata.
use Rattle.rl_ranges.specs.declared.letters.LettersError.{LettersError}
use Rattle.rl_ranges.specs.declared.letters.LettersError.TheVariants.{TooMany, OutOfMemory}
use Rattle.rl_prio.specs.declared.error.PrioError.{PrioError}
use Rattle.rl_prio.specs.declared.error.PrioError.TheVariants.{Letters, OutOfMemory as NoMemory}

-- The error of building an automaton if its letters can't be made for this reason: `Letters` if there are too many, and
-- `OutOfMemory` if memory runs out.
abbrev pub letters_error : LettersError → PrioError
letters_error TooMany = Letters
letters_error OutOfMemory = NoMemory
