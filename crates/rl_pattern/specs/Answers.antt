-- Whether the groups of a pattern are nested too deep for the reader. A code is a character of the pattern as a number: a code
-- point in a `str`, a byte in a `bytes`. MOST_OPEN_GROUPS is the maximum number of groups that are open at the same position.
use Rattle.std.specs.Prelude.{ℕ, Bool, List}
use Rattle.rl_pattern.specs.declared.flags.Flags.{Flags}
use Rattle.rl_pattern.specs.Viable.{TooDeepAt}

-- Holds if no group in the codes `w` opens while MOST_OPEN_GROUPS groups are open. `call` has the flags of the call, and
-- `text` says whether the codes are a `str`.
abbrev pub Shallow : Flags → Bool → List ℕ → Type 0
Shallow call text w = (q : ℕ) → ¬ TooDeepAt call text w q
