-- The meanings of names: the module `re`, its nine functions that take a pattern first, and its flags. An alias is a name that
-- an import of the source gives to the module, or to one of its members. In all definitions, `source` has the bytes of the
-- source, and `aliases` are its aliases.
use Rattle.std.specs.Prelude.{ℕ, Bool, false, ◌&&◌, List, [], ◌∷◌, codes, find, Option, None, bytes_eq, if◌then◌else◌}
use Rattle.std.specs.List.{list_any}
use Rattle.std.specs.Map.{lookup}
use Rattle.std.specs.Option.{is_none, option_map_or}
use Rattle.rl_sites.specs.declared.significant.SignificantToken.{SignificantToken}
use Rattle.rl_sites.specs.declared.imports.Alias.{Alias}
use Rattle.rl_sites.specs.declared.call.Call.{Call}
use Rattle.rl_sites.specs.declared.call.Call.TheVariants as call
use Rattle.rl_sites.specs.declared.flag.Flag.{Flag}
use Rattle.rl_sites.specs.declared.flag.Flag.TheVariants as flag
use Rattle.rl_sites.specs.Significant.{word_of, is_name}

-- The nine functions. If a name is an alias of several, the first in this order counts.
abbrev pub calls : List Call
calls =
    call.Compile ∷ call.Match ∷ call.Search ∷ call.Fullmatch ∷ call.Findall ∷ call.Finditer ∷ call.Split ∷ call.Sub ∷ call.Subn ∷ []

-- The name of a function in the module.
abbrev pub call_word : Call → List ℕ
call_word call.Compile = codes "compile"
call_word call.Match = codes "match"
call_word call.Search = codes "search"
call_word call.Fullmatch = codes "fullmatch"
call_word call.Findall = codes "findall"
call_word call.Finditer = codes "finditer"
call_word call.Split = codes "split"
call_word call.Sub = codes "sub"
call_word call.Subn = codes "subn"

-- The sixteen names of flags in the module, each with the flag that it sets. If a name is an alias of several, the first in
-- this order counts.
abbrev pub flag_names : List (List ℕ × Flag)
flag_names =
    (codes "A", flag.Ascii) ∷ (codes "ASCII", flag.Ascii)
    ∷ (codes "I", flag.IgnoreCase) ∷ (codes "IGNORECASE", flag.IgnoreCase)
    ∷ (codes "L", flag.Locale) ∷ (codes "LOCALE", flag.Locale)
    ∷ (codes "M", flag.Multiline) ∷ (codes "MULTILINE", flag.Multiline)
    ∷ (codes "S", flag.DotAll) ∷ (codes "DOTALL", flag.DotAll)
    ∷ (codes "U", flag.Unicode) ∷ (codes "UNICODE", flag.Unicode)
    ∷ (codes "X", flag.Verbose) ∷ (codes "VERBOSE", flag.Verbose)
    ∷ (codes "DEBUG", flag.Nothing) ∷ (codes "NOFLAG", flag.Nothing)
    ∷ []

-- Whether the text `name` is an alias of the module.
unfoldable pub names_any_module : List ℕ → List Alias → List ℕ → Bool
names_any_module source aliases name =
    list_any (λ alias. bytes_eq (word_of source alias.name) name && is_none alias.member) aliases

-- Whether the text `name` is an alias of the module's member with the name `member`.
unfoldable pub names_any_member : List ℕ → List Alias → List ℕ → List ℕ → Bool
names_any_member source aliases name member =
    list_any
    (λ alias. bytes_eq (word_of source alias.name) name && option_map_or (λ m. bytes_eq (word_of source m) member) alias.member false)
    aliases

-- Whether the token is a name that is an alias of the module.
unfoldable pub is_module : List ℕ → List Alias → SignificantToken → Bool
is_module source aliases token = is_name token && names_any_module source aliases (word_of source token)

-- The function whose name in the module the token is, or `None` if it isn't such a name: `match` is the function of
-- `re.match`. Whether an alias of the module and a `.` come before the token isn't examined.
unfoldable pub call_named : List ℕ → SignificantToken → Option Call
call_named source token = if is_name token then find (λ call. bytes_eq (word_of source token) (call_word call)) calls else None

-- The flag whose name in the module the token is, or `None` if it isn't such a name: `I` is the flag of `re.I`. Whether an
-- alias of the module and a `.` come before the token isn't examined.
unfoldable pub flag_named : List ℕ → SignificantToken → Option Flag
flag_named source token = if is_name token then lookup (bytes_eq (word_of source token)) flag_names else None

-- The function that the token is an alias of, the first in the order of `calls` if there are several, or `None` if there is
-- none.
unfoldable pub call_aliased : List ℕ → List Alias → SignificantToken → Option Call
call_aliased source aliases token =
    if is_name token then find (λ call. names_any_member source aliases (word_of source token) (call_word call)) calls else None

-- The flag that the token is an alias of, the first in the order of `flag_names` if there are several, or `None` if there is
-- none.
unfoldable pub flag_aliased : List ℕ → List Alias → SignificantToken → Option Flag
flag_aliased source aliases token =
    if is_name token then lookup (names_any_member source aliases (word_of source token)) flag_names else None
