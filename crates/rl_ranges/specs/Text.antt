-- Texts. A text is a list of codes of a universe. For `str` the codes are 0 to 0x10FFFF, including surrogates; for `bytes`
-- they are 0 to 255.
use Rattle.std.specs.Prelude.{ℕ, ◌<◌, List, All}
use Rattle.rl_ranges.specs.declared.universe.Universe.{Universe}
use Rattle.rl_ranges.specs.declared.universe.Universe.TheVariants.{Str, Bytes}

-- The number of codes of the universe. The codes are the numbers below it.
abbrev pub code_count : Universe → ℕ
code_count Str = 1114112
code_count Bytes = 256

-- Holds if the list is a text of the universe: all its codes belong to the universe.
abbrev pub IsText : Universe → List ℕ → Type 0
IsText universe codes = All (λ c. c < code_count universe) codes
