-- The value of a run of tokens, which are literals and comments: the values of its literals joined together. A place is a byte
-- index in the source, counted from 0. A refusal is the error that a literal without a value gives. A literal is a prefix of
-- up to two letters, one or three quotes, a body, and the same quotes. In all definitions, `source` has the bytes of the
-- source.
use Rattle.std.specs.Prelude.{◌≡◌, IsTrue, ℕ, ◌+◌, ◌-◌, Bool, false, not, ◌&&◌, ◌||◌, ◌==◌, List, [], ◌∷◌, length, take, drop, slice_get, Some, option_map, unwrap_or, Result, Ok, Err, if◌then◌else◌}
use Rattle.std.specs.List.{list_any, list_all}
use Rattle.std.specs.Option.{option_map_or}
use Rattle.std.specs.Char.{to_ascii_lowercase}
use Rattle.std.specs.Str.{chars}
use Rattle.rl_ranges.specs.declared.universe.Universe.{Universe}
use Rattle.rl_ranges.specs.declared.universe.Universe.TheVariants as universe
use Rattle.rl_pylex.specs.declared.token_list.TokenKind.{TokenKind}
use Rattle.rl_pylex.specs.declared.token_list.TokenKind.TheVariants as kind
use Rattle.rl_pylex.specs.declared.token_list.Token.{Token}
use Rattle.rl_pylex.specs.Literals.{prefix_size, quote_count}
use Rattle.rl_pylex.specs.Source.{text_of, same_kind}
use Rattle.rl_pystr.specs.declared.fault.StrError.{StrError}
use Rattle.rl_pystr.specs.declared.fault.StrError.TheVariants as error
use Rattle.rl_pystr.specs.declared.placed.Placed.{Placed}
use Rattle.rl_pystr.specs.declared.literal.Literal.{Literal}
use Rattle.rl_pystr.specs.Values.{empty, joined_results, value_from}

-- Whether the token is a literal.
abbrev pub is_literal : Token → Bool
is_literal token = same_kind kind.Literal token.kind

-- The number of letters in the prefix of the literal `text`: 0, 1 or 2. It is 0 too if the text doesn't begin with
-- a prefix and a quote, as every literal does.
abbrev pub letter_count : List ℕ → ℕ
letter_count text = unwrap_or (prefix_size text) 0

-- Whether the prefix of the literal `text` has this letter, in upper or lower case. `letter` is the code of the lower case.
unfoldable pub has_letter : ℕ → List ℕ → Bool
has_letter letter text = list_any (λ c. to_ascii_lowercase c == letter) (take (letter_count text) text)

-- The number of quotes at each end of the literal `text`: 1 or 3.
abbrev pub quotes_of : List ℕ → ℕ
quotes_of text = quote_count (drop (letter_count text) text)

-- The index in the literal `text` of the first byte of its body, which follows the prefix and the opening quotes.
unfoldable pub body_start : List ℕ → ℕ
body_start text = letter_count text + quotes_of text

-- The bytes between the opening and the closing quotes of the literal `text`.
unfoldable pub body_of : List ℕ → List ℕ
body_of text = take (length text - quotes_of text - body_start text) (drop (body_start text) text)

-- The value of the literal `text`, which begins at the place `place`, or its refusal. `bytes` says whether it is a literal of
-- bytes.
unfoldable pub literal_value : Bool → ℕ → List ℕ → Result Placed StrError
literal_value bytes place text =
    value_from (has_letter 114 text) bytes (place + body_start text) 0 (chars (body_of text))

-- Whether the token is a literal whose prefix has the letter, in upper or lower case. `letter` is the code of the lower case.
abbrev pub is_lettered : ℕ → List ℕ → Token → Bool
is_lettered letter source token = is_literal token && has_letter letter (text_of source token)

-- Whether the token is a literal whose prefix doesn't have the letter, in upper or lower case. `letter` is the code of the
-- lower case.
abbrev pub is_unlettered : ℕ → List ℕ → Token → Bool
is_unlettered letter source token = is_literal token && not (has_letter letter (text_of source token))

-- The value of a token, or its refusal. A token that isn't a literal has an empty value. `bytes` says whether the literals of
-- the run are literals of bytes.
abbrev pub token_value : Bool → List ℕ → Token → Result Placed StrError
token_value bytes source token =
    if is_literal token then literal_value bytes token.from (text_of source token) else Ok empty

-- The values of the tokens joined together in order, or the first refusal among them. `bytes` says whether the literals are
-- literals of bytes.
abbrev pub values : Bool → List ℕ → List Token → Result Placed StrError
values bytes source [] = Ok empty
values bytes source (token ∷ tokens) = joined_results (token_value bytes source token) (values bytes source tokens)

-- Whether the run has a literal of bytes, which is one with a `b` in its prefix.
unfoldable pub has_bytes : List ℕ → List Token → Bool
has_bytes source run = list_any (is_lettered 98 source) run

-- The value of a run, or the first refusal in this order: a literal is an f-string, literals of bytes and of text are mixed,
-- or the first fault by place in a body.
unfoldable pub value_of_run : List ℕ → List Token → Result Placed StrError
value_of_run source run =
    if list_any (is_lettered 102 source) run then Err error.FString
    else (if has_bytes source run && list_any (is_unlettered 98 source) run then Err error.Mixed
    else values (has_bytes source run) source run)

-- The universe of a value: `Bytes`, the one of `bytes`, if the flag is true, otherwise `Str`, the one of `str`.
abbrev pub universe_by : Bool → Universe
universe_by bytes = if bytes then universe.Bytes else universe.Str

-- The place of the first closing quote of `token`, which must be a literal.
unfoldable pub close_of : List ℕ → Token → ℕ
close_of source token = token.upto - quotes_of (text_of source token)

-- Holds if `literal` is the value of the run: it has the run's code points and their places, its universe, and the place where
-- the closing quotes of its last literal begin.
pub record IsValue (source : List ℕ) (run : List Token) (literal : Literal) : Type 0 where
  pub value : value_of_run source run ≡ Ok (record { codes = literal.codes; places = literal.places })
  pub universe : literal.universe ≡ universe_by (has_bytes source run)
  pub end : option_map (close_of source) (slice_get run (length run - 1)) ≡ Some literal.end

-- Whether the run begins with a literal. It is false for the empty list.
abbrev pub begins_literal : List Token → Bool
begins_literal run = option_map_or is_literal (slice_get run 0) false

-- Whether the run ends with a literal. It is false for the empty list.
abbrev pub ends_literal : List Token → Bool
ends_literal run = option_map_or is_literal (slice_get run (length run - 1)) false

-- Whether the kind of token is `Comment`.
abbrev pub is_comment_kind : TokenKind → Bool
is_comment_kind k = same_kind kind.Comment k

-- Holds if the run has only literals and comments, and begins and ends with a literal. So it isn't empty.
pub record IsLiteralRun (run : List Token) : Type 0 where
  pub kinds : IsTrue (list_all (λ token. is_literal token || is_comment_kind token.kind) run)
  pub begins : IsTrue (begins_literal run)
  pub ends : IsTrue (ends_literal run)
