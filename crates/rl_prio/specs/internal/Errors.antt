-- For the contracts of private functions: errors of lists, translated into errors of automata.
use Rattle.rl_prio.specs.declared.build.attempts.ListError.{ListError}
use Rattle.rl_prio.specs.declared.build.attempts.ListError.TheVariants.{TooLong, OutOfMemory}
use Rattle.rl_prio.specs.declared.error.PrioError.{PrioError}
use Rattle.rl_prio.specs.declared.error.PrioError.TheVariants.{Moves, OutOfMemory as NoMemory}

-- The error of building an automaton if one of its attempt lists, which say what a matcher tries next, can't be made for this
-- reason: `Moves` if it is too long, and `OutOfMemory` if memory runs out.
abbrev pub list_error : ListError → PrioError
list_error TooLong = Moves
list_error OutOfMemory = NoMemory
