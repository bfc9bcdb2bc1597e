-- For private contracts: a table of the meanings of names. The meaning of a name says whether it is an alias of the module,
-- and which function and which flag it is an alias of: the first if there are several, in the order of `calls` and
-- `flag_names`. A table is a list of pairs of a name and its meaning; the first pair with a name counts. An alias is a name
-- that an import gives to the module `re` or to one of its members. `source` has the bytes of the source.
use Rattle.std.specs.Prelude.{◌≡◌, ℕ, Bool, true, false, ◌||◌, List, [], ◌∷◌, codes, Option, Some, None, nat_lt, find, unwrap_or, bytes_eq, if◌then◌else◌}
use Rattle.std.specs.Map.{lookup}
use denote.Ref.{Bor}
use Rattle.rl_sites.specs.declared.significant.SignificantToken.{SignificantToken}
use Rattle.rl_sites.specs.declared.imports.Alias.{Alias}
use Rattle.rl_sites.specs.declared.call.Call.{Call}
use Rattle.rl_sites.specs.declared.call.Call.TheVariants as call
use Rattle.rl_sites.specs.declared.flag.Flag.{Flag}
use Rattle.rl_sites.specs.declared.flag.Flag.TheVariants as flag
use Rattle.rl_sites.specs.declared.meaning.Meaning.{Meaning}
use Rattle.rl_sites.specs.Significant.{word_of}
use Rattle.rl_sites.specs.Names.{calls, call_word, flag_names, names_any_module, names_any_member}

-- The function whose name in the module is `word`, or `None` if there is none.
unfoldable pub call_of : List ℕ → Option Call
call_of word = find (λ call. bytes_eq word (call_word call)) calls

-- The flag of which `word` is a name in the module, or `None` if there is none.
unfoldable pub flag_of : List ℕ → Option Flag
flag_of word = lookup (bytes_eq word) flag_names

-- All flags, in the order of `flag_names`.
abbrev pub flags : List Flag
flags =
    flag.Ascii ∷ flag.IgnoreCase ∷ flag.Locale ∷ flag.Multiline ∷ flag.DotAll ∷ flag.Unicode ∷ flag.Verbose ∷ flag.Nothing ∷ []

-- The two names of a flag.
abbrev pub flag_words : Flag → List ℕ × List ℕ
flag_words flag.Ascii = (codes "A", codes "ASCII")
flag_words flag.IgnoreCase = (codes "I", codes "IGNORECASE")
flag_words flag.Locale = (codes "L", codes "LOCALE")
flag_words flag.Multiline = (codes "M", codes "MULTILINE")
flag_words flag.DotAll = (codes "S", codes "DOTALL")
flag_words flag.Unicode = (codes "U", codes "UNICODE")
flag_words flag.Verbose = (codes "X", codes "VERBOSE")
flag_words flag.Nothing = (codes "DEBUG", codes "NOFLAG")

-- Whether the word is one of the names of the flag.
abbrev pub is_word_of : List ℕ → Flag → Bool
is_word_of word flag = bytes_eq word (flag_words flag).0 || bytes_eq word (flag_words flag).1

-- The first function in the order of `calls` that the text `name` is an alias of, or `None` if there is none.
unfoldable pub first_call : List ℕ → List Alias → List ℕ → Option Call
first_call source aliases name = find (λ call. names_any_member source aliases name (call_word call)) calls

-- The first flag in the order of `flag_names` that the text `name` is an alias of, or `None` if there is none.
unfoldable pub first_flag : List ℕ → List Alias → List ℕ → Option Flag
first_flag source aliases name = lookup (names_any_member source aliases name) flag_names

-- The position of the function in `calls`, counted from 0.
abbrev pub call_rank : Call → ℕ
call_rank call.Compile = 0
call_rank call.Match = 1
call_rank call.Search = 2
call_rank call.Fullmatch = 3
call_rank call.Findall = 4
call_rank call.Finditer = 5
call_rank call.Split = 6
call_rank call.Sub = 7
call_rank call.Subn = 8

-- The position of the flag in `flags`, counted from 0.
abbrev pub flag_rank : Flag → ℕ
flag_rank flag.Ascii = 0
flag_rank flag.IgnoreCase = 1
flag_rank flag.Locale = 2
flag_rank flag.Multiline = 3
flag_rank flag.DotAll = 4
flag_rank flag.Unicode = 5
flag_rank flag.Verbose = 6
flag_rank flag.Nothing = 7

-- The one of the two with the lower rank, the first if their ranks are equal. If only one exists, it is the result,
-- and if neither does, `None`.
abbrev pub earlier : {X : Type 0} → (X → ℕ) → Option X → Option X → Option X
earlier rank None second = second
earlier rank (Some a) None = Some a
earlier rank (Some a) (Some b) = if nat_lt (rank b) (rank a) then Some b else Some a

-- The meaning of a name that is no alias.
abbrev pub nothing : Meaning
nothing = record { of_module = false; call = None; flag = None }

-- The meaning of a name in two lists of aliases together, given its meanings in the first and in the second.
abbrev pub joined : Meaning → Meaning → Meaning
joined first second =
    record {
      of_module = first.of_module || second.of_module;
      call = earlier call_rank first.call second.call;
      flag = earlier flag_rank first.flag second.flag;
    }

-- The meaning that an alias gives to its name. With no member it is the module; otherwise it is the function and the flag
-- whose name in the module the member is, each if there is one.
abbrev pub own_meaning : List ℕ → Option SignificantToken → Meaning
own_meaning source None = record { of_module = true; call = None; flag = None }
own_meaning source (Some member) =
    record { of_module = false; call = call_of (word_of source member); flag = flag_of (word_of source member) }

-- The meaning of the text `name` after one more alias, if `old` is its meaning before. An alias with another name doesn't
-- change it.
abbrev pub meaning_with : List ℕ → Alias → List ℕ → Meaning → Meaning
meaning_with source alias name old =
    if bytes_eq (word_of source alias.name) name then joined old (own_meaning source alias.member) else old

-- The meaning that these aliases give to the text `name`.
abbrev pub meaning_of : List ℕ → List Alias → List ℕ → Meaning
meaning_of source aliases name =
    record {
      of_module = names_any_module source aliases name;
      call = first_call source aliases name;
      flag = first_flag source aliases name;
    }

-- The meaning of the text `name` in a table, or `nothing` if the table has no entry for it.
abbrev pub meaning_in : List (Bor (List ℕ) × Meaning) → List ℕ → Meaning
meaning_in entries name = unwrap_or (lookup (λ (k : Bor (List ℕ)). bytes_eq name k.now) entries) nothing

-- Holds if the table gives each name the meaning that these aliases give to it.
pub record IsMeaningTable (source : List ℕ) (aliases : List Alias) (entries : List (Bor (List ℕ) × Meaning)) : Type 0 where
  pub each : (name : List ℕ) → meaning_in entries name ≡ meaning_of source aliases name
