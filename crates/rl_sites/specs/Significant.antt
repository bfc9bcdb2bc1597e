-- The significant tokens of a source, which are all except comments, with their indexes, and tests on them. A name is a token
-- of the kind `Name`, so a keyword is one too. `source` has the bytes of the source.
use Rattle.std.specs.Prelude.{ℕ, ◌+◌, Bool, false, ◌&&◌, List, [], ◌∷◌, slice_get, if◌then◌else◌, bytes_eq}
use Rattle.std.specs.Option.{option_map_or}
use Rattle.rl_pylex.specs.declared.token_list.TokenKind.TheVariants as kind
use Rattle.rl_pylex.specs.declared.token_list.Token.{Token}
use Rattle.rl_pylex.specs.Source.{text_of, same_kind}
use Rattle.rl_sites.specs.declared.significant.SignificantToken.{SignificantToken}

-- The tokens of a list that aren't comments, in order, each with its index. The first token of the list has the index
-- `number`.
abbrev pub significant_from : ℕ → List Token → List SignificantToken
significant_from number [] = []
significant_from number (t ∷ ts) =
    if same_kind kind.Comment t.kind then significant_from (number + 1) ts
    else record { number = number; inner = t } ∷ significant_from (number + 1) ts

-- The bytes of the token in the source.
abbrev pub word_of : List ℕ → SignificantToken → List ℕ
word_of source token = text_of source token.inner

-- Whether the token is a name.
abbrev pub is_name : SignificantToken → Bool
is_name token = same_kind kind.Name token.inner.kind

-- Whether the token is a literal.
abbrev pub is_literal : SignificantToken → Bool
is_literal token = same_kind kind.Literal token.inner.kind

-- Whether the token is a name with this text.
unfoldable pub is_word : List ℕ → List ℕ → SignificantToken → Bool
is_word source word token = is_name token && bytes_eq (word_of source token) word

-- Whether the token is of the kind `Op`, such as an operator character or a bracket, and has this text.
unfoldable pub is_op : List ℕ → List ℕ → SignificantToken → Bool
is_op source op token = same_kind kind.Op token.inner.kind && bytes_eq (word_of source token) op

-- Whether there is a token at the index `i` of the list, counted from 0, and it satisfies `test`.
abbrev pub is_at : ℕ → (SignificantToken → Bool) → List SignificantToken → Bool
is_at i test tokens = option_map_or test (slice_get tokens i) false
