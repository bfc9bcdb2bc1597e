-- The named classes of Python's `re`, code by code. Without the flag ASCII they follow Unicode: a digit has general
-- category Nd, a word character has a category L* or N* or is `_`, and white space has the property White_Space or is one
-- of U+001C to U+001F. A surrogate is in none of them.
use Rattle.std.specs.Prelude.{ℕ, Bool, true, false, ◌||◌, ◌==◌}
use Rattle.rl_ranges.specs.declared.named.Named.{Named}
use Rattle.rl_ranges.specs.declared.named.Named.TheVariants.{Digit, Space, Word}
use Rattle.rl_ranges.specs.declared.universe.Universe.{Universe}
use Rattle.rl_ranges.specs.declared.universe.Universe.TheVariants.{Str, Bytes}
use Rattle.unicode.specs.GeneralCategory.{general_category, general_category_eq}
use Rattle.unicode.specs.GeneralCategoryGroup.{in_group}
use Rattle.unicode.specs.Binary.{is_white_space}
use Rattle.ucd_category.specs.declared.GeneralCategory.TheVariants.{DecimalNumber}
use Rattle.ucd_category.specs.declared.GeneralCategoryGroup.TheVariants.{Letter, Number}
unfoldable pub use Rattle.rl_ranges.specs.Codes.{is_between}

-- Whether the code is in the named class. The flag `true` selects the ASCII class, `false` the Unicode class.
unfoldable pub is_named : Named → Bool → ℕ → Bool
is_named Digit true code = is_between 48 57 code
is_named Space true code = is_between 9 13 code || code == 32
is_named Word true code = is_between 48 57 code || is_between 65 90 code || is_between 97 122 code || code == 95
is_named Digit false code = general_category_eq (general_category code) DecimalNumber
is_named Space false code = is_white_space code || is_between 28 31 code
is_named Word false code = in_group Letter (general_category code) || in_group Number (general_category code) || code == 95

-- Whether named classes and letter case follow ASCII. They do under the flag ASCII and for `bytes`.
abbrev pub goes_by_ascii : Bool → Universe → Bool
goes_by_ascii ascii Str = ascii
goes_by_ascii ascii Bytes = true
