-- Which codes a leaf matches. A leaf is a node that matches one character, or a reference to a group: a `.`, a character, an
-- escape or a class. A named class is an escape such as `\d`. A universe has the codes of a `str` or of a `bytes`, from 0 up to
-- `code_count`.
use Rattle.std.specs.Prelude.{ℕ, zero, suc, Bool, true, false, not, if◌then◌else◌, nat_lt, nat_le, ◌==◌, ◌&&◌, ◌||◌, List}
use Rattle.std.specs.List.{list_any}
use Rattle.rl_ranges.specs.Text.{code_count}
use Rattle.rl_ranges.specs.Named.{is_named}
use Rattle.rl_ranges.specs.Case.{is_case_kin}
use Rattle.rl_ranges.specs.declared.universe.Universe.{Universe}
use Rattle.rl_ranges.specs.declared.universe.Universe.TheVariants.{Str, Bytes}
use Rattle.rl_pattern.specs.declared.flags.Flags.{Flags}
use Rattle.rl_pattern.specs.Tree.{Named, Escaped, code, kind, Member, one, range, Leaf, any, glyph, members}

-- Whether it is the universe of `str`, not of `bytes`.
abbrev pub is_text : Universe → Bool
is_text Str = true
is_text Bytes = false

-- The universe of a pattern. The flag says whether the pattern is a `str`.
abbrev pub universe_for : Bool → Universe
universe_for true = Str
universe_for false = Bytes

-- Whether some number less than `n` satisfies the test.
unfoldable pub some_below : ℕ → (ℕ → Bool) → Bool
some_below zero test = false
some_below (suc n) test = test n || some_below n test

-- Whether the set, closed under case, holds the code `c`: some code of the universe in the set is `c`, or is case kin to it,
-- which means that both are cases of one letter. `ascii` says whether letter case follows ASCII.
abbrev pub closed_holds : Universe → Bool → (ℕ → Bool) → ℕ → Bool
closed_holds u ascii set c = some_below (code_count u) (λ d. set d && is_case_kin ascii d c)

-- Whether the code `c` is in the universe and in the set.
abbrev pub within : Universe → (ℕ → Bool) → ℕ → Bool
within u set c = nat_lt c (code_count u) && set c

-- Which codes a leaf matches, over a universe and under flags.
module _ (u : Universe) (fl : Flags) where
  -- Whether named classes and letter case follow ASCII. They do under the flag ASCII and in `bytes`.
  abbrev pub narrow : Bool
  narrow = fl.ascii || not (is_text u)

  -- Whether the code `c` is in the set, or, under IGNORECASE, in the set closed under case.
  abbrev pub closing : (ℕ → Bool) → ℕ → Bool
  closing set c = if fl.ignore_case then closed_holds u narrow set c else set c

  -- Whether a named class holds the code, or its complement in the universe if the flag is `true`.
  abbrev pub kind_holds : Named → Bool → ℕ → Bool
  kind_holds k false c = is_named k narrow c
  kind_holds k true c = within u (λ d. not (is_named k narrow d)) c

  -- Whether a character or escape matches the code. A reference, a named character (`\N{..}`) or a number that is too large
  -- matches none.
  abbrev pub escaped_holds : Escaped → ℕ → Bool
  escaped_holds (code d) c = closing (λ x. x == d) c
  escaped_holds (kind k n) c = kind_holds k n c
  escaped_holds _ c = false

  -- Whether a class member that is a character or a range of codes holds the code `c`. A named class counts as empty here.
  abbrev pub code_member : Member → ℕ → Bool
  code_member (one s (code d)) c = c == d
  code_member (range s (code d) (code e)) c = nat_le d c && nat_le c e
  code_member _ c = false

  -- Whether a class member that is a named class holds the code. Any other member counts as empty here.
  abbrev pub kind_member : Member → ℕ → Bool
  kind_member (one s (kind k n)) c = kind_holds k n c
  kind_member _ c = false

  -- Whether some member of a class holds the code. Characters and ranges are closed under case, named classes aren't. A `^` at
  -- the front of the class isn't considered.
  abbrev pub members_hold : List Member → ℕ → Bool
  members_hold ms c = closing (λ d. list_any (λ m. code_member m d) ms) c || list_any (λ m. kind_member m c) ms

  -- Whether the leaf matches the code. It isn't checked that the code is in the universe.
  abbrev pub leaf_holds : Leaf → ℕ → Bool
  leaf_holds any c = fl.dot_all || not (c == 10)
  leaf_holds (glyph e) c = escaped_holds e c
  leaf_holds (members false ms) c = members_hold ms c
  leaf_holds (members true ms) c = not (members_hold ms c)

-- Whether the leaf matches the code `c` and the code is in the universe.
unfoldable pub leaf_codes : Universe → Flags → Leaf → ℕ → Bool
leaf_codes u f x = within u (leaf_holds u f x)
