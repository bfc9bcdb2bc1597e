-- Causes: the errors that a comparison of two patterns ends with if one of its parts fails. The parts are the split of the
-- codes into letters, and the building of lists of items. `SpansError` is made of their errors in this way.
use Rattle.rl_ranges.specs.declared.letters.LettersError.{LettersError}
use Rattle.rl_ranges.specs.declared.letters.LettersError.TheVariants as letters
use Rattle.rl_spans.specs.declared.items.ListError.{ListError}
use Rattle.rl_spans.specs.declared.items.ListError.TheVariants as list
use Rattle.rl_spans.specs.declared.error.SpansError.{SpansError}
use Rattle.rl_spans.specs.declared.error.SpansError.TheVariants as error

-- The error of the comparison if the split into letters ends with this error: too many letters give `Letters`.
abbrev pub letters_error : LettersError → SpansError
letters_error letters.TooMany = error.Letters
letters_error letters.OutOfMemory = error.OutOfMemory

-- The error of the comparison if the building of a list of items ends with this error: a list that is too long gives `Moves`.
abbrev pub list_error : ListError → SpansError
list_error list.TooLong = error.Moves
list_error list.OutOfMemory = error.OutOfMemory
