-- Laws on sources and their tokens: a source has at most one answer, either a token list or a fault; tokens are in order; the
-- text of a literal token is a literal by itself.
use Rattle.std.specs.Prelude.{◌≡◌, ◌≢◌, ◌≤◌, ℕ, List, [], ◌∷◌, length, IsUtf8}
use Rattle.rl_lists.specs.declared.limits.TheConstants.{MOST_BYTES}
use Rattle.rl_pylex.specs.declared.token_list.Token.{Token}
use Rattle.rl_pylex.specs.declared.fault.LexError.{LexError}
use Rattle.rl_pylex.specs.declared.fault.LexError.TheVariants as error
use Rattle.rl_pylex.specs.declared.token_list.TokenKind.TheVariants as kind
use Rattle.rl_pylex.specs.Literals.{IsLiteral}
use Rattle.rl_pylex.specs.Source.{text_of, IsReadAt, IsInOrder, IsTokenList, IsFault}

-- Any two token lists of one source are equal.
abbrev pub HasOneTokenList : Type 0
HasOneTokenList = (source : List ℕ) (ts us : List Token) → IsTokenList source ts → IsTokenList source us → ts ≡ us

-- A source with a token list has no fault except `OutOfMemory`, which `IsFault` allows for every source.
abbrev pub HasNoFaultBeside : Type 0
HasNoFaultBeside =
    (source : List ℕ) (ts : List Token) (e : LexError) → IsTokenList source ts → IsFault source e → e ≡ error.OutOfMemory

-- Any two faults of one source, neither of which is `OutOfMemory`, are equal.
abbrev pub HasOneFault : Type 0
HasOneFault =
    (source : List ℕ) (e f : LexError) → IsFault source e → IsFault source f
    → e ≢ error.OutOfMemory → f ≢ error.OutOfMemory → e ≡ f

-- Each token in the token list of a source is what is read at its place, and the tokens are in order and don't overlap.
abbrev pub HasTokensInOrder : Type 0
HasTokensInOrder = (source : List ℕ) (tokens : List Token) → IsTokenList source tokens → IsInOrder source tokens

-- If a token that is read in a source is a `Literal`, its text by itself is one whole literal.
abbrev pub HasLiteralTexts : Type 0
HasLiteralTexts =
    (source : List ℕ) (token : Token) → IsReadAt source token → token.kind ≡ kind.Literal → IsLiteral (text_of source token)

-- A text that is one whole literal, is UTF-8 and has at most `MOST_BYTES` bytes is a source with exactly one token: a
-- `Literal` that is the whole text.
abbrev pub HasLiteralsAlone : Type 0
HasLiteralsAlone =
    (text : List ℕ) → IsLiteral text → length text ≤ MOST_BYTES → IsUtf8 text
    → IsTokenList text (record { kind = kind.Literal; from = 0; upto = length text } ∷ [])
