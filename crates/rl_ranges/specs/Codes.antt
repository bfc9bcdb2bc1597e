-- Sets of codes. A code is a code point of a `str` or a byte of a `bytes` object. A set is a list of ranges, and a range is a
-- pair: its first code and its last code.
use Rattle.std.specs.Prelude.{ℕ, ◌+◌, ◌<◌, ◌≤◌, List, [], ◌∷◌, Bool, ◌&&◌, IsTrue, nat_le}
use Rattle.std.specs.List.{list_any}
use Rattle.rl_ranges.specs.declared.universe.Universe.{Universe}
use Rattle.rl_ranges.specs.Text.{code_count}

-- Whether the code lies between `first` and `last`, both included.
unfoldable pub is_between : ℕ → ℕ → ℕ → Bool
is_between first last code = nat_le first code && nat_le code last

-- Whether the set holds the code: the code lies in some range of the list, ends included.
unfoldable pub has : List (ℕ × ℕ) → ℕ → Bool
has ranges code = list_any (λ r. nat_le r.0 code && nat_le code r.1) ranges

-- Holds if the ranges are in ascending order, with a gap of at least one code between neighbours, no range is empty, and the
-- first one doesn't begin below `low`. Holds for the empty list.
abbrev pub Above : ℕ → List (ℕ × ℕ) → Type 0
Above low [] = Unit {0}
Above low (r ∷ rs) = (low ≤ r.0) × (r.0 ≤ r.1) × Above (r.1 + 2) rs

-- Holds if every code that the set holds is in the universe.
abbrev pub IsInside : Universe → List (ℕ × ℕ) → Type 0
IsInside universe ranges = (c : ℕ) → IsTrue (has ranges c) → c < code_count universe
