-- The imports of a source: which names are aliases of the module `re`, and which are aliases of its members. An import lists
-- items, separated by `,`: an item is a name, optionally with dotted names after it (`a.b`) and then with `as` and a new name.
-- An alias is a name that an import gives to the module or to one of its members. The significant tokens of a source are all
-- except comments; the definitions get only these. `source` has the bytes of the source.
use Rattle.std.specs.Prelude.{ℕ, zero, suc, ◌+◌, Bool, true, ◌&&◌, ◌||◌, ◌==◌, List, [], ◌∷◌, ◌++◌, drop, codes, slice_index_or, Option, Some, None, option_to_list, if◌then◌else◌}
use Rattle.rl_pylex.specs.declared.token_list.TokenKind.TheVariants as kind
use Rattle.rl_pylex.specs.Source.{same_kind}
use Rattle.rl_sites.specs.declared.significant.SignificantToken.{SignificantToken}
use Rattle.rl_sites.specs.declared.imports.Alias.{Alias}
use Rattle.rl_sites.specs.declared.imports.Import.{Import}
use Rattle.rl_sites.specs.declared.imports.Import.TheVariants as import
use Rattle.rl_sites.specs.Significant.{is_name, is_word, is_op, is_at}

-- Whether the token is a line end, a `;` or a `:`. Such a token is taken to end a statement: an import is read if it comes
-- directly after one, also after a `:` that is followed by an expression, as in `{1: 2}`.
unfoldable pub ends_statement : List ℕ → SignificantToken → Bool
ends_statement source token =
    same_kind kind.LineEnd token.inner.kind || is_op source (codes ";") token || is_op source (codes ":") token

-- Whether the tokens begin with `as` and a name.
unfoldable pub is_renamed : List ℕ → List SignificantToken → Bool
is_renamed source rest = is_at 0 (is_word source (codes "as")) rest && is_at 1 is_name rest

-- The number of tokens in the dotted names that the tokens begin with: 4 for `.b.c`, and 0 if there are none.
abbrev pub dots_size : List ℕ → List SignificantToken → ℕ
dots_size source (dot ∷ name ∷ rest) =
    if is_op source (codes ".") dot && is_name name then 2 + dots_size source rest else 0
dots_size source _ = 0

-- The number of tokens in the dotted names that follow the first name of an item, given the tokens after that name. Only the
-- items of `import` may have dotted names: for `from re import` the number is 0.
abbrev pub joined_size : List ℕ → Import → List SignificantToken → ℕ
joined_size source import.Module rest = dots_size source rest
joined_size source import.Member rest = 0

-- The number of tokens of an item after its first name, given the tokens after that name: the dotted names, and `as` with a
-- name.
unfoldable pub item_size : List ℕ → Import → List SignificantToken → ℕ
item_size source kind rest =
    let joined = joined_size source kind rest in joined + (if is_renamed source (drop joined rest) then 2 else 0)

-- The name that an item without dotted names defines: the name after `as` if `rest` begins with `as` and a name, otherwise
-- `token`. `token` is the item's first name, and `rest` has all tokens after it.
unfoldable pub given_name : List ℕ → SignificantToken → List SignificantToken → SignificantToken
given_name source token rest = if is_renamed source rest then slice_index_or rest 1 token else token

-- The alias that an item defines, or `None`. Of the items of `import`, only `re` itself defines one, for the module. Each item
-- of `from re import` defines one, for the member that it names. `token` is the item's first name, and `rest` follows it.
abbrev pub item_alias : List ℕ → Import → SignificantToken → List SignificantToken → Option Alias
item_alias source import.Module token rest =
    if is_word source (codes "re") token && dots_size source rest == 0
    then Some (record { name = given_name source token rest; member = None }) else None
item_alias source import.Member token rest = Some (record { name = given_name source token rest; member = Some token })

-- The aliases that the items at the beginning of the tokens define, in order. The first `skip` tokens are ignored. The items
-- end after the first one that no `,` follows, or before the first that doesn't begin with a name.
abbrev pub items_from : List ℕ → Import → ℕ → List SignificantToken → List Alias
items_from source kind skip [] = []
items_from source kind (suc skip) (token ∷ rest) = items_from source kind skip rest
items_from source kind zero (token ∷ rest) =
    if is_name token
    then option_to_list (item_alias source kind token rest)
    ++ (if is_at (item_size source kind rest) (is_op source (codes ",")) rest
    then items_from source kind (suc (item_size source kind rest)) rest else [])
    else []

-- Whether the tokens begin with `from re import`.
unfoldable pub is_from_import : List ℕ → List SignificantToken → Bool
is_from_import source rest =
    is_at 0 (is_word source (codes "from")) rest && is_at 1 (is_word source (codes "re")) rest
    && is_at 2 (is_word source (codes "import")) rest

-- The aliases that a statement defines, given its tokens and those after it: none if it isn't an `import` or a `from re
-- import`. A `(` may come before the items of `from re import`.
unfoldable pub import_here : List ℕ → List SignificantToken → List Alias
import_here source rest =
    if is_at 0 (is_word source (codes "import")) rest then items_from source import.Module 0 (drop 1 rest)
    else (if is_from_import source rest
    then items_from source import.Member (if is_at 3 (is_op source (codes "(")) rest then 1 else 0) (drop 3 rest)
    else [])

-- The aliases that the imports among the tokens define, in order. `begins` says whether a statement begins at the first token.
abbrev pub aliases_from : List ℕ → Bool → List SignificantToken → List Alias
aliases_from source begins [] = []
aliases_from source begins (token ∷ rest) =
    (if begins then import_here source (token ∷ rest) else []) ++ aliases_from source (ends_statement source token) rest

-- The aliases of a source with these significant tokens, in order. They hold everywhere in it, whatever the scope of the
-- import.
abbrev pub aliases_of : List ℕ → List SignificantToken → List Alias
aliases_of source tokens = aliases_from source true tokens
