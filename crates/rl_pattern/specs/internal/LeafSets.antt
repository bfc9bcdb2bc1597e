-- For private contracts: the parts of what a leaf matches, over a universe, as functions of the universe and the flags. A leaf
-- is a `.`, a character, an escape, a reference or a class. A named class is an escape such as `\d`. The code is the last
-- argument.
use Rattle.std.specs.Prelude.{ℕ, Bool, List}
use Rattle.std.specs.List.{list_any}
use Rattle.rl_ranges.specs.declared.universe.Universe.{Universe}
use Rattle.rl_pattern.specs.declared.flags.Flags.{Flags}
use Rattle.rl_pattern.specs.Tree.{Named, Escaped, Member}
use Rattle.rl_pattern.specs.Codes.{no_flags}
use Rattle.rl_pattern.specs.LeafCodes.{within, closing, kind_holds, escaped_holds, code_member, kind_member, members_hold}

-- Whether the code is in the set, or, under IGNORECASE, in the set closed under case.
abbrev pub closing_in : Universe → Flags → (ℕ → Bool) → ℕ → Bool
closing_in u f = closing u f

-- Whether a named class holds the code, or its complement in the universe if the flag is `true`.
unfoldable pub kind_in : Universe → Flags → Named → Bool → ℕ → Bool
kind_in u f = kind_holds u f

-- Whether a character or escape matches the code, which must be in the universe.
unfoldable pub escaped_in : Universe → Flags → Escaped → ℕ → Bool
escaped_in u f e = within u (escaped_holds u f e)

-- Whether `holds` is `true` for some member of the list and the code `c`.
abbrev pub some_member : (Member → ℕ → Bool) → List Member → ℕ → Bool
some_member holds ms c = list_any (λ m. holds m c) ms

-- Whether the member is a character or a range and holds the code, which must be in the universe.
unfoldable pub code_in : Universe → Member → ℕ → Bool
code_in u m = within u (code_member u no_flags m)

-- Whether some member that is a character or a range holds the code, which must be in the universe.
unfoldable pub codes_in : Universe → List Member → ℕ → Bool
codes_in u ms = within u (some_member (code_member u no_flags) ms)

-- Whether the member is a named class and holds the code, which must be in the universe.
unfoldable pub class_in : Universe → Flags → Member → ℕ → Bool
class_in u f m = within u (kind_member u f m)

-- Whether some member that is a named class holds the code, which must be in the universe.
unfoldable pub classes_in : Universe → Flags → List Member → ℕ → Bool
classes_in u f ms = within u (some_member (kind_member u f) ms)

-- Whether some member of the class holds the code, which must be in the universe.
unfoldable pub members_in : Universe → Flags → List Member → ℕ → Bool
members_in u f ms = within u (members_hold u f ms)
