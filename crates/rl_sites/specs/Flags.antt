-- The flags of a call, decided by its arguments. A term is a part of an argument that sets one flag, such as `re.I`. The names
-- `DEBUG` and `NOFLAG` and the number `0` set the flag `Nothing`, which changes nothing. An alias is a name that an import of
-- the source gives to the module `re` or to one of its members. An argument is the list of its tokens. In all definitions,
-- `source` has the bytes of the source, and `aliases` are its aliases.
use Rattle.std.specs.Prelude.{ℕ, Bool, true, false, not, ◌&&◌, List, [], ◌∷◌, drop, slice_get, filter, codes, Option, Some, None, bytes_eq, if◌then◌else◌}
use Rattle.std.specs.List.{list_any, slice_split}
use Rattle.std.specs.Option.{option_map_or}
use Rattle.rl_pylex.specs.declared.token_list.TokenKind.TheVariants as kind
use Rattle.rl_pylex.specs.Source.{same_kind}
use Rattle.rl_pattern.specs.declared.flags.Flags.{Flags}
use Rattle.rl_sites.specs.declared.significant.SignificantToken.{SignificantToken}
use Rattle.rl_sites.specs.declared.imports.Alias.{Alias}
use Rattle.rl_sites.specs.declared.call.Call.{Call}
use Rattle.rl_sites.specs.declared.call.Call.TheVariants as call
use Rattle.rl_sites.specs.declared.flag.Flag.{Flag}
use Rattle.rl_sites.specs.declared.flag.Flag.TheVariants as flag
use Rattle.rl_sites.specs.declared.site.SiteFlags.{SiteFlags}
use Rattle.rl_sites.specs.declared.site.SiteFlags.TheVariants.{Known, Unknown}
use Rattle.rl_sites.specs.Significant.{word_of, is_name, is_word, is_op, is_at}
use Rattle.rl_sites.specs.Names.{is_module, flag_named, flag_aliased}

-- The flags of which none is set.
abbrev pub no_flags : Flags
no_flags =
    record { ignore_case = false; multiline = false; dot_all = false; verbose = false; ascii = false; unicode = false; locale = false }

-- The same flags with this one set too. The flag `Nothing` changes none.
abbrev pub with_flag : Flag → Flags → Flags
with_flag flag.Ascii flags = record flags { ascii = true }
with_flag flag.IgnoreCase flags = record flags { ignore_case = true }
with_flag flag.Locale flags = record flags { locale = true }
with_flag flag.Multiline flags = record flags { multiline = true }
with_flag flag.DotAll flags = record flags { dot_all = true }
with_flag flag.Unicode flags = record flags { unicode = true }
with_flag flag.Verbose flags = record flags { verbose = true }
with_flag flag.Nothing flags = flags

-- The flag that the tokens set, if they are a term: the number `0`, an alias of a flag, or an alias of the module, `.` and a
-- flag's name. Otherwise `None`.
abbrev pub term : List ℕ → List Alias → List SignificantToken → Option Flag
term source aliases (token ∷ []) =
    if same_kind kind.Number token.inner.kind && bytes_eq (word_of source token) (codes "0") then Some flag.Nothing
    else flag_aliased source aliases token
term source aliases (token ∷ dot ∷ name ∷ []) =
    if is_module source aliases token && is_op source (codes ".") dot then flag_named source name else None
term source aliases _ = None

-- The flags `flags` together with those that the terms set. They are unknown if one of the token lists isn't a term.
abbrev pub set_all : List ℕ → List Alias → List (List SignificantToken) → Flags → SiteFlags
set_all source aliases [] flags = Known flags
set_all source aliases (t ∷ ts) flags =
    option_map_or (λ flag. set_all source aliases ts (with_flag flag flags)) (term source aliases t) Unknown

-- The flags of an argument that consists of one or more terms separated by `|`. For any other argument, also an empty one,
-- they are unknown.
unfoldable pub flags_by : List ℕ → List Alias → List SignificantToken → SiteFlags
flags_by source aliases argument = set_all source aliases (slice_split (is_op source (codes "|")) argument) no_flags

-- Whether the argument begins with a token that satisfies `test` and a single `=`, which no second `=` follows.
unfoldable pub is_named : List ℕ → (SignificantToken → Bool) → List SignificantToken → Bool
is_named source test argument =
    is_at 0 test argument && is_at 1 (is_op source (codes "=")) argument
    && not (is_at 2 (is_op source (codes "=")) argument)

-- Whether the argument is named `flags`: it begins with `flags` and a single `=`.
abbrev pub is_flags_argument : List ℕ → List SignificantToken → Bool
is_flags_argument source argument = is_named source (is_word source (codes "flags")) argument

-- Whether the argument begins with `*`.
abbrev pub is_starred : List ℕ → List SignificantToken → Bool
is_starred source argument = is_at 0 (is_op source (codes "*")) argument

-- The index, counted from 0, of the argument that gives the flags of a call if no argument is named `flags`.
abbrev pub position : Call → ℕ
position call.Compile = 1
position call.Split = 3
position call.Sub = 4
position call.Subn = 4
position _ = 2

-- The flags that the argument at the index of the flags gives, if no argument is named `flags`. No flag is set if that
-- argument is missing (`None`) or empty, or begins with a name and a single `=`.
abbrev pub flags_by_place : List ℕ → List Alias → Option (List SignificantToken) → SiteFlags
flags_by_place source aliases (Some (token ∷ rest)) =
    if is_named source is_name (token ∷ rest) then Known no_flags else flags_by source aliases (token ∷ rest)
flags_by_place source aliases _ = Known no_flags

-- The flags that the only argument named `flags` gives or, if none is named so, the argument `placed` at the index of the
-- flags. The list holds the arguments named `flags`. If there are several, the flags are unknown.
abbrev pub flags_by_name : List ℕ → List Alias → List (List SignificantToken) → Option (List SignificantToken) → SiteFlags
flags_by_name source aliases [] placed = flags_by_place source aliases placed
flags_by_name source aliases (argument ∷ []) placed = flags_by source aliases (drop 2 argument)
flags_by_name source aliases (argument ∷ other ∷ others) placed = Unknown

-- The flags of a call of the function `call` with these arguments. They are unknown if an argument begins with `*`.
unfoldable pub flags_of : List ℕ → List Alias → Call → List (List SignificantToken) → SiteFlags
flags_of source aliases call arguments =
    if list_any (is_starred source) arguments then Unknown
    else flags_by_name source aliases (filter (is_flags_argument source) arguments) (slice_get arguments (position call))
