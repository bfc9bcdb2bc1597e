-- The sites of a source: its calls of the module `re` whose first argument begins with a run of literals. The head of a call
-- is its tokens up to and including the opening bracket. The run of a site is the tokens from its first literal to its last,
-- including comments between them. An alias is a name that an import gives to the module or to one of its members. The
-- significant tokens are all except comments; each has its index among all tokens. In all definitions, `source` has the bytes
-- of the source, and `aliases` are its aliases.
use Rattle.std.specs.Prelude.{◌≡◌, ℕ, ◌+◌, ◌-◌, Bool, false, ◌&&◌, ◌||◌, List, [], ◌∷◌, ◌++◌, length, take, drop, slice_get, codes, Option, Some, None, option_map, option_to_list, if◌then◌else◌}
use Rattle.std.specs.List.{prefix_len}
use Rattle.std.specs.Option.{option_or, option_and_then}
use Rattle.rl_pylex.specs.declared.token_list.Token.{Token}
use Rattle.rl_pylex.specs.Source.{IsTokenList}
use Rattle.rl_sites.specs.declared.significant.SignificantToken.{SignificantToken}
use Rattle.rl_sites.specs.declared.imports.Alias.{Alias}
use Rattle.rl_sites.specs.declared.call.Call.{Call}
use Rattle.rl_sites.specs.declared.site.Site.{Site}
use Rattle.rl_sites.specs.declared.site.SiteFlags.{SiteFlags}
use Rattle.rl_sites.specs.declared.site.SiteFlags.TheVariants.{Unknown}
use Rattle.rl_sites.specs.declared.heads.Head.{Head}
use Rattle.rl_sites.specs.Significant.{significant_from, is_literal, is_word, is_op, is_at}
use Rattle.rl_sites.specs.Imports.{aliases_of}
use Rattle.rl_sites.specs.Names.{is_module, call_named, call_aliased}
use Rattle.rl_sites.specs.Arguments.{arguments_of}
use Rattle.rl_sites.specs.Flags.{flags_of}

-- The head with which the tokens begin, if it consists of an alias of the module, `.`, the name of one of the nine functions
-- and `(`. Otherwise `None`.
unfoldable pub dotted_head : List ℕ → List Alias → List SignificantToken → Option Head
dotted_head source aliases rest =
    if is_at 1 (is_op source (codes ".")) rest && is_at 3 (is_op source (codes "(")) rest
    && is_at 0 (is_module source aliases) rest
    then option_map (λ call. record { call = call; size = 4 }) (option_and_then (call_named source) (slice_get rest 2)) else None

-- The head with which the tokens begin, if it consists of an alias of one of the nine functions and `(`. Otherwise `None`.
unfoldable pub bare_head : List ℕ → List Alias → List SignificantToken → Option Head
bare_head source aliases rest =
    if is_at 1 (is_op source (codes "(")) rest
    then option_map (λ call. record { call = call; size = 2 }) (option_and_then (call_aliased source aliases) (slice_get rest 0))
    else None

-- The head with which the tokens begin, of either form, or `None` if they don't begin with a head.
unfoldable pub head_of : List ℕ → List Alias → List SignificantToken → Option Head
head_of source aliases rest = option_or (dotted_head source aliases rest) (bare_head source aliases rest)

-- The number of tokens in `pattern=`, which is 2, if the tokens begin with it, otherwise 0.
abbrev pub pattern_size : List ℕ → List SignificantToken → ℕ
pattern_size source rest =
    if is_at 0 (is_word source (codes "pattern")) rest && is_at 1 (is_op source (codes "=")) rest then 2 else 0

-- The site with this call, `whole` and flags, whose run begins with the first of the two tokens and ends with the second.
-- Its `count` includes the comments between them. `None` if either token is missing, because the run is empty.
abbrev pub site_of_run : Call → Bool → SiteFlags → Option SignificantToken → Option SignificantToken → Option Site
site_of_run call whole flags (Some first) (Some last) =
    Some (record { call = call; first = first.number; count = last.number - first.number + 1; whole = whole; flags = flags })
site_of_run call whole flags _ _ = None

-- Whether the tokens after a run of literals begin with `,` or `)`, so that the run is the whole argument.
unfoldable pub ends_whole : List ℕ → List SignificantToken → Bool
ends_whole source rest = is_at 0 (is_op source (codes ",")) rest || is_at 0 (is_op source (codes ")")) rest

-- The site of a call of the function `call`, given the tokens after its opening bracket. Its run is the longest run of
-- literals at the beginning, or after an optional `pattern=`. `None` if there is no literal. The flags are known only if the
-- run is the whole argument.
unfoldable pub site_behind : List ℕ → List Alias → Call → List SignificantToken → Option Site
site_behind source aliases call rest =
    let run = drop (pattern_size source rest) rest in
    let size = prefix_len is_literal run in
    let literals = take size run in
    let whole = ends_whole source (drop size run) in
    let flags = if whole then flags_of source aliases call (arguments_of source rest) else Unknown in
    site_of_run call whole flags (slice_get literals 0) (slice_get literals (length literals - 1))

-- The site with which the tokens begin: a head, an optional `pattern=` and literals. `None` if they don't begin with a site.
abbrev pub site_here : List ℕ → List Alias → List SignificantToken → Option Site
site_here source aliases rest =
    option_and_then (λ head. site_behind source aliases head.call (drop head.size rest)) (head_of source aliases rest)

-- Whether the token is a `.` or the name `def`. No site begins right after such a token.
unfoldable pub hides : List ℕ → SignificantToken → Bool
hides source token = is_op source (codes ".") token || is_word source (codes "def") token

-- The sites among the tokens, in order. `hidden` says whether the first token comes right after a `.` or a `def`.
abbrev pub sites_from : List ℕ → List Alias → Bool → List SignificantToken → List Site
sites_from source aliases hidden [] = []
sites_from source aliases hidden (token ∷ rest) =
    (if hidden then [] else option_to_list (site_here source aliases (token ∷ rest)))
    ++ sites_from source aliases (hides source token) rest

-- The sites of a source with these tokens, in order.
unfoldable pub sites_of : List ℕ → List Token → List Site
sites_of source tokens =
    let significant = significant_from 0 tokens in
    sites_from source (aliases_of source significant) false significant

-- Holds if the source can be cut into tokens, and it has no sites.
pub record HasNoSites (source : List ℕ) : Type 0 where
  pub tokens : List Token
  pub are_tokens : IsTokenList source tokens
  pub none : sites_of source tokens ≡ []
