-- The settings that a settings file gives, by the keys of its TOML document. A setting is an option of the command line that
-- the file can set. `Members` is a table: a list of keys with their values. `Data` is the value of a key.
use Rattle.std.specs.Prelude.{◌&&◌, ℕ, Bool, true, List, [], ◌∷◌, Option, Some, None, codes}
use Rattle.std.specs.Prelude.{if◌then◌else◌}
use Rattle.std.specs.List.{list_any}
use Rattle.std.specs.Str.{bytes_eq, is_utf8}
use Rattle.toml.specs.Data.{Data, Members, get_member, member, no_members}
use Rattle.toml.specs.Parse.{parse_document}
use Rattle.rl_words.specs.Values.{◌>>=◌, optional}
use Rattle.rl_words.specs.declared.ranges.TheConstants.{MAX_DEGREES, MAX_PAIRS, REPORT_VERSIONS}
use Rattle.rl_words.specs.declared.words.PartialSettings.{PartialSettings}
use Rattle.rl_settings.specs.Values.{format_in, mode_in, number_in}

-- The five keys that a settings file may have. No others are allowed.
abbrev pub known_keys : List (List ℕ)
known_keys = codes "compile-as" ∷ codes "max-degree" ∷ codes "max-pairs" ∷ codes "format"
    ∷ codes "report" ∷ []

-- Whether all keys of the table are among `known_keys`. `true` for the empty table.
abbrev pub has_known_keys : Members → Bool
has_known_keys no_members = true
has_known_keys (member key value rest) = list_any (bytes_eq key) known_keys && has_known_keys rest

-- What the key gives: `Some None` if the table lacks it, `None` if `read` refuses its value, otherwise `Some (Some a)` with
-- the value `a` that `read` returns.
abbrev pub read_at : {A : Type 0} → List ℕ → (Data → Option A) → Members → Option (Option A)
read_at key read table = optional read (get_member key table)

-- The settings that the table gives, or `None` if it has a key that isn't known or a value that its key doesn't take. A
-- setting whose key the table lacks is `None` in the result.
abbrev pub table_values : Members → Option PartialSettings
table_values table = if has_known_keys table then (do
  Some (record {
    mode = (← read_at (codes "compile-as") mode_in table);
    format = (← read_at (codes "format") format_in table);
    max_degree = (← read_at (codes "max-degree") (number_in MAX_DEGREES) table);
    max_pairs = (← read_at (codes "max-pairs") (number_in MAX_PAIRS) table);
    report = (← read_at (codes "report") (number_in REPORT_VERSIONS) table);
  })) else None

-- The top-level table of the TOML document that the bytes are, or `None` if they aren't UTF-8 or aren't a TOML document.
unfoldable pub document_of : List ℕ → Option Members
document_of bytes = if is_utf8 bytes then parse_document bytes else None

-- The settings that the bytes of a settings file give, or `None` if they aren't a TOML document or its table is refused.
unfoldable pub file_values : List ℕ → Option PartialSettings
file_values bytes = document_of bytes >>= table_values
