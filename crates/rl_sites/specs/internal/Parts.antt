-- For private contracts: parts of the definitions of sites, named for the functions that compute them. A site is a call of the
-- module `re` whose first argument begins with a run of literals, and its head is its tokens up to and including the opening
-- bracket. A term is a part of an argument that sets one flag. An alias is a name that an import gives to the module or to one
-- of its members. In all definitions, `source` has the bytes of the source, and `aliases` are its aliases.
use Rattle.std.specs.Prelude.{ℕ, Bool, false, not, ◌&&◌, List, drop, codes, Option, Some, None, option_map, bytes_eq, if◌then◌else◌}
use Rattle.std.specs.List.{slice_split}
use Rattle.std.specs.Option.{option_and_then, option_map_or}
use Rattle.rl_pattern.specs.declared.flags.Flags.{Flags}
use Rattle.rl_pylex.specs.declared.token_list.TokenKind.TheVariants as kind
use Rattle.rl_pylex.specs.Source.{same_kind}
use Rattle.rl_sites.specs.declared.significant.SignificantToken.{SignificantToken}
use Rattle.rl_sites.specs.declared.imports.Alias.{Alias}
use Rattle.rl_sites.specs.declared.call.Call.{Call}
use Rattle.rl_sites.specs.declared.flag.Flag.{Flag}
use Rattle.rl_sites.specs.declared.flag.Flag.TheVariants as flag
use Rattle.rl_sites.specs.declared.heads.Head.{Head}
use Rattle.rl_sites.specs.declared.site.Site.{Site}
use Rattle.rl_sites.specs.declared.site.SiteFlags.{SiteFlags}
use Rattle.rl_sites.specs.declared.site.SiteFlags.TheVariants.{Unknown}
use Rattle.rl_sites.specs.Significant.{word_of, is_op}
use Rattle.rl_sites.specs.Names.{is_module, flag_named, flag_aliased}
use Rattle.rl_sites.specs.Imports.{is_renamed}
use Rattle.rl_sites.specs.Arguments.{arguments_of}
use Rattle.rl_sites.specs.Flags.{with_flag, flags_of}
use Rattle.rl_sites.specs.Sites.{head_of, site_behind, hides}

-- Whether the token is the number `0`.
abbrev pub is_zero : List ℕ → SignificantToken → Bool
is_zero source token = same_kind kind.Number token.inner.kind && bytes_eq (word_of source token) (codes "0")

-- 2 if the tokens begin with `as` and a name, otherwise 0.
abbrev pub as_size : List ℕ → List SignificantToken → ℕ
as_size source rest = if is_renamed source rest then 2 else 0

-- Whether the token, outside the brackets that arguments open, separates two arguments: it is a `,`, and it isn't between a
-- `lambda` and its `:`, which `in_lambda` says.
abbrev pub separates : List ℕ → Bool → SignificantToken → Bool
separates source in_lambda token = is_op source (codes ",") token && not in_lambda

-- Whether the token is a `|`, which separates terms.
abbrev pub is_bar : List ℕ → SignificantToken → Bool
is_bar source token = is_op source (codes "|") token

-- The parts of an argument that the `|` tokens separate. If there is no `|`, the argument itself is the only
-- part.
abbrev pub terms_of : List ℕ → List SignificantToken → List (List SignificantToken)
terms_of source argument = slice_split (is_op source (codes "|")) argument

-- The flag that a term of one token sets. Such a term is the number `0` or an alias of a flag. `None` for any other token.
abbrev pub lone_term : List ℕ → List Alias → SignificantToken → Option Flag
lone_term source aliases token = if is_zero source token then Some flag.Nothing else flag_aliased source aliases token

-- The flag that a term of three tokens sets. Such a term is an alias of the module, `.` and a flag's name. `None` for any
-- other three tokens.
abbrev pub dotted_term : List ℕ → List Alias → SignificantToken → SignificantToken → SignificantToken → Option Flag
dotted_term source aliases token dot name =
    if is_module source aliases token && is_op source (codes ".") dot then flag_named source name else None

-- The flags after a term and the terms that follow it. The term sets the flag `found`, `flags` are those set before it, and
-- `others` adds those that the following terms set. Unknown if `found` is `None`, because the tokens aren't a term.
abbrev pub set_by : Option Flag → Flags → (Flags → SiteFlags) → SiteFlags
set_by found flags others = option_map_or (λ flag. others (with_flag flag flags)) found Unknown

-- The head of `size` tokens that calls the function `call`, or `None` if there is no function.
abbrev pub head : ℕ → Option Call → Option Head
head size call = option_map (λ call. record { call = call; size = size }) call

-- The function that `names` gives for the token. `None` if there is no token or `names` gives none.
abbrev pub call_by : (SignificantToken → Option Call) → Option SignificantToken → Option Call
call_by names token = option_and_then names token

-- Whether the token `before` is a `.` or a `def`, so that no site begins right after it. False if there is no token.
abbrev pub is_hidden : List ℕ → Option SignificantToken → Bool
is_hidden source before = option_map_or (hides source) before false

-- The head with which the tokens begin. `None` if they begin with no head, or if `before`, the token before them, is a `.` or
-- a `def`. If `before` is `None`, no token is before them.
abbrev pub open_head : List ℕ → List Alias → Option SignificantToken → List SignificantToken → Option Head
open_head source aliases before rest = if is_hidden source before then None else head_of source aliases rest

-- The flags of a call, given the tokens after its opening bracket. They are unknown unless `whole` says that the run of
-- literals is the whole argument.
abbrev pub flags_if : Bool → List ℕ → List Alias → Call → List SignificantToken → SiteFlags
flags_if whole source aliases call rest =
    if whole then flags_of source aliases call (arguments_of source rest) else Unknown

-- The site that begins with the head `found` at the beginning of the tokens. `None` if there is no head, or no literal follows
-- it.
abbrev pub site_by : List ℕ → List Alias → Option Head → List SignificantToken → Option Site
site_by source aliases found rest = option_and_then (λ head. site_behind source aliases head.call (drop head.size rest)) found
