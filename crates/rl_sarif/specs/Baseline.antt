-- A baseline: a report in JSON, read as the keys of its entries. Members that no definition here names are ignored. A baseline
-- recognizes an entry by its key: the path, and the subject, which is the call, the kind of the outcome, and the degree, the
-- exceeded limit or the cause of a refusal.
use Rattle.std.specs.Prelude.{◌≡◌, ℕ, ◌≤◌, ◌^◌, false, ◌||◌, ◌==◌, nat_lt, List, [], ◌∷◌, Option, Some, None, option_map, option_and_then, codes, find, length, map, IsUtf8, if◌then◌else◌}
use Rattle.std.specs.Option.{option_map_or}
use Rattle.std.specs.Str.{bytes_eq}
use Rattle.serde_json.specs.Data.{Data, Items, no_items, item}
use Rattle.serde_json.specs.Find.{get, as_array, as_number, as_str, as_u64}
use Rattle.serde_json.specs.Read.{read}
use Rattle.rl_sites.specs.Names.{calls, call_word}
use Rattle.rl_syntax.specs.declared.verdict.Limit.TheVariants.{Size, Letters, Moves, Sets, Pairs}
use Rattle.rl_report.specs.Names.{Text, limit_name}
use Rattle.rl_sarif.specs.declared.limits.TheConstants.{MOST_BASELINE_BYTES}
use Rattle.rl_sarif.specs.Keys.{EntryKey, Subject}

-- ---- the names that a baseline may hold

-- The names of the nine calls.
abbrev pub call_names : List Text
call_names = map call_word calls

-- The names of the kinds of entries.
abbrev pub kind_names : List Text
kind_names =
    codes "degree" ∷ codes "exponential" ∷ codes "undecided" ∷ codes "refused" ∷ codes "unreadable" ∷ codes "too-deep-folder"
    ∷ codes "not-plain" ∷ []

-- The names of the limits by which a verdict can be undecided: the size, letters and moves of a pattern, the sets of states
-- and the live pairs that are explored.
abbrev pub limit_names : List Text
limit_names = map limit_name (Size ∷ Letters ∷ Moves ∷ Sets ∷ Pairs ∷ [])

-- The names of the causes of refusals. Only older reports use the last two.
abbrev pub cause_names : List Text
cause_names =
    codes "not-utf8" ∷ codes "coding" ∷ codes "unterminated" ∷ codes "file-too-long" ∷ codes "stray-code"
    ∷ codes "not-whole" ∷ codes "flags-unknown"
    ∷ codes "f-string" ∷ codes "mixed" ∷ codes "bad-escape" ∷ codes "named-escape" ∷ codes "not-ascii"
    ∷ codes "syntax" ∷ codes "too-deep" ∷ codes "too-long"
    ∷ codes "locale" ∷ codes "flag-clash" ∷ codes "duplicate-name" ∷ codes "code-too-large" ∷ codes "reversed-range"
    ∷ codes "repeat-too-large" ∷ codes "repeat-order" ∷ codes "possessive" ∷ codes "backreference" ∷ codes "lookaround"
    ∷ codes "conditional" ∷ codes "atomic" ∷ codes "inner-anchor"
    ∷ codes "word-boundary" ∷ codes "multiline-anchor" ∷ []

-- The first name in the list that equals the text, or none if no name does.
abbrev pub one_of : List Text → Text → Option Text
one_of names text = find (λ name. bytes_eq name text) names

-- ---- the members of an object

-- The string under a key, or none if the value isn't an object with a string there.
abbrev pub text_at : Text → Data → Option Text
text_at key d = option_and_then as_str (get key d)

-- The name under a key, or none if the value isn't an object with one of these names there.
abbrev pub name_at : List Text → Text → Data → Option Text
name_at names key d = option_and_then (one_of names) (text_at key d)

-- The number under a key, or none if the value isn't an object with a whole number from 0 to 2^64 - 1 there.
abbrev pub number_at : Text → Data → Option ℕ
number_at key d = option_and_then as_u64 (option_and_then as_number (get key d))

-- ---- an entry

-- A subject with only a call and a kind.
abbrev pub plain : Option Text → Text → Subject
plain call kind = record { call = call; kind = kind; degree = None; limit = None; cause = None }

-- The number if it is less than 2^32, or none.
abbrev pub fitting : ℕ → Option ℕ
fitting n = if nat_lt n (2 ^ 32) then Some n else None

-- The subject of the entry `d` with this call and kind. The kind `degree` needs a number below 2^32 as `degree`, `undecided`
-- the name of a limit as `limit`, and `refused` the name of a cause as `cause`; without it there is no subject. Every other
-- kind needs nothing.
abbrev pub subject_of_kind : Option Text → Text → Data → Option Subject
subject_of_kind call kind d =
    if bytes_eq kind (codes "degree")
    then option_map (λ n. record (plain call kind) { degree = Some n }) (option_and_then fitting (number_at (codes "degree") d))
    else (if bytes_eq kind (codes "undecided")
    then option_map (λ name. record (plain call kind) { limit = Some name }) (name_at limit_names (codes "limit") d)
    else (if bytes_eq kind (codes "refused")
    then option_map (λ name. record (plain call kind) { cause = Some name }) (name_at cause_names (codes "cause") d)
    else Some (plain call kind)))

-- The call of an entry: `Some None` if it has none, and `None` if it has a value there that isn't one of the nine names.
abbrev pub call_found : Option Data → Option (Option Text)
call_found call = option_map_or (λ d. option_map Some (option_and_then (one_of call_names) (as_str d))) call (Some None)

-- The subject of an entry: its call and kind, with the degree, limit or cause that the kind needs. None if the kind is missing
-- or isn't a known name, if there is a call that isn't one, or if what the kind needs is missing or wrong.
abbrev pub subject_read : Data → Option Subject
subject_read d =
    option_and_then (λ call. option_and_then (λ kind. subject_of_kind call kind d) (name_at kind_names (codes "kind") d))
    (call_found (get (codes "call") d))

-- The key of an entry, or none if it isn't an object with a string as its path, or if it has no subject (`subject_read`).
abbrev pub key_read : Data → Option EntryKey
key_read d =
    option_and_then (λ subject. option_map (λ path. record { path = path; subject = subject }) (text_at (codes "path") d))
    (subject_read d)

-- ---- the report

-- The keys of the entries in order, or none if one of the entries has no key, because it doesn't have the right form.
abbrev pub keys_read : Items → Option (List EntryKey)
keys_read no_items = Some []
keys_read (item d ds) = option_and_then (λ key. option_map (λ keys. key ∷ keys) (keys_read ds)) (key_read d)

-- The keys of the entries of a report, or none if its version isn't 1 or 2, or if it has no array of entries of the right
-- form.
abbrev pub report_keys : Data → Option (List EntryKey)
report_keys d =
    if option_map_or (λ n. n == 1 || n == 2) (number_at (codes "version") d) false
    then option_and_then keys_read (option_and_then as_array (get (codes "entries") d)) else None

-- The bytes are at most `MOST_BASELINE_BYTES`, they are a report in JSON and UTF-8, and the entries of the report have these
-- keys.
pub record IsBaseline (bytes : List ℕ) (keys : List EntryKey) : Type 0 where
  pub small : length bytes ≤ MOST_BASELINE_BYTES
  pub utf8 : IsUtf8 bytes
  pub value : Data
  pub reads : read bytes ≡ Some value
  pub holds : report_keys value ≡ Some keys
