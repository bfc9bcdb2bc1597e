-- The tokens of a source. The source, after its byte order mark if it has one, is cut into pieces in order. At each place the
-- first rule that fits gives the piece, and the tokens are the pieces that have a kind. A place is a byte index in the source,
-- counted from 0. The bracket depth of a place is the number of brackets that are open there. What is read at a place is what
-- `reading` gives for the text from there on, at its bracket depth: a piece, a literal without an end, or a stray code.
use Rattle.std.specs.Prelude.{◌≡◌, ◌≢◌, ℕ, ◌+◌, ◌-◌, ◌<◌, ◌≤◌, Bool, true, false, List, [], ◌∷◌, length, take, drop, filter_map, Option, Some, None, option_map, IsUtf8, ⊤, All, AllPairs}
use Rattle.std.specs.Str.{IsValidUpTo}
use Rattle.rl_lists.specs.declared.limits.TheConstants.{MOST_BYTES}
use Rattle.rl_pylex.specs.declared.token_list.TokenKind.{TokenKind}
use Rattle.rl_pylex.specs.declared.token_list.TokenKind.TheVariants as kind
use Rattle.rl_pylex.specs.declared.token_list.Token.{Token}
use Rattle.rl_pylex.specs.declared.fault.LexError.{LexError}
use Rattle.rl_pylex.specs.declared.fault.LexError.TheVariants as error
use Rattle.rl_pylex.specs.declared.rules.Reading.{Reading}
use Rattle.rl_pylex.specs.declared.rules.Reading.TheVariants as reads
use Rattle.rl_pylex.specs.Bytes.{text_start}
use Rattle.rl_pylex.specs.Rules.{reading, depth_after}
use Rattle.rl_pylex.specs.Coding.{wrong_coding}

-- The bytes of the source from the place `token.from` up to, but not including, the place `token.upto`.
abbrev pub text_of : List ℕ → Token → List ℕ
text_of source token = take (token.upto - token.from) (drop token.from source)

-- Whether the two kinds are equal.
abbrev pub same_kind : TokenKind → TokenKind → Bool
same_kind kind.Name kind.Name = true
same_kind kind.Number kind.Number = true
same_kind kind.Literal kind.Literal = true
same_kind kind.Op kind.Op = true
same_kind kind.LineEnd kind.LineEnd = true
same_kind kind.Comment kind.Comment = true
same_kind _ _ = false

-- A piece of a source: the kind of its token (`None` if it has no token), the place where it begins, and its number of bytes.
pub record Piece : Type 0 where
  pub kind : Option TokenKind
  pub from : ℕ
  pub size : ℕ

-- The token of a piece, with its kind and its bytes, or `None` if the piece has no kind.
abbrev pub token_of : Piece → Option Token
token_of piece = option_map (λ kind. record { kind = kind; from = piece.from; upto = piece.from + piece.size }) piece.kind

-- Holds if the source is cut into these pieces from the place `at`, at the bracket depth `depth`, up to the place `end`, at
-- the bracket depth `end_depth`. Each piece begins where the one before ends, and is what is read there.
abbrev pub Cut : List ℕ → ℕ → ℕ → List Piece → ℕ → ℕ → Type 0
Cut source at depth [] end end_depth = (at ≡ end) × (depth ≡ end_depth)
Cut source at depth (p ∷ ps) end end_depth =
    (p.from ≡ at) × (reading depth (drop at source) ≡ reads.Piece p.kind p.size)
    × Cut source (at + p.size) (depth_after depth (drop at source)) ps end end_depth

-- Holds if the source is cut, from the beginning of its text up to the place `at`, into pieces with these tokens, and the
-- bracket depth at that place is `depth`.
pub record Reaches (source : List ℕ) (at depth : ℕ) (tokens : List Token) : Type 0 where
  pub pieces : List Piece
  pub cut : Cut source (text_start source) 0 pieces at depth
  pub are : tokens ≡ filter_map token_of pieces

-- Holds if the source passes the checks on it as a whole: it has at most `MOST_BYTES` bytes, it is UTF-8, and it has no coding
-- line whose name isn't accepted (`is_accepted` lists the six names of UTF-8 and ASCII that are).
pub record IsReadable (source : List ℕ) : Type 0 where
  pub short : length source ≤ MOST_BYTES
  pub utf8 : IsUtf8 source
  pub coding : wrong_coding (drop (text_start source) source) ≡ None

-- Holds if these are the tokens of the source: it passes the checks, and all of its text is cut into pieces with these tokens.
pub record IsTokenList (source : List ℕ) (tokens : List Token) : Type 0 where
  pub readable : IsReadable source
  pub depth : ℕ
  pub reaches : Reaches source (length source) depth tokens

-- Holds if the source is cut into pieces up to the place `p`, which is before its end, and `found` is what is read there.
pub record Meets (source : List ℕ) (p : ℕ) (found : Reading) : Type 0 where
  pub within : p < length source
  pub depth : ℕ
  pub before : List Token
  pub reaches : Reaches source p depth before
  pub found_there : reading depth (drop p source) ≡ found

-- Holds if the source has this fault. The first three cases are the checks on the whole source, in order: each case requires
-- that the checks before it pass. If all three pass, the fault is the first literal without an end or stray code that the
-- cutting into pieces meets. `OutOfMemory` holds for every source.
abbrev pub IsFault : List ℕ → LexError → Type 0
IsFault source error.FileTooLong = MOST_BYTES < length source
IsFault source (error.NotUtf8 n) = (length source ≤ MOST_BYTES) × IsValidUpTo source n
IsFault source (error.Coding p) =
    (length source ≤ MOST_BYTES) × IsUtf8 source
    × ((q : ℕ) × (wrong_coding (drop (text_start source) source) ≡ Some q) × (p ≡ text_start source + q))
IsFault source (error.Unterminated p) = IsReadable source × Meets source p reads.Unterminated
IsFault source (error.StrayCode p) = IsReadable source × Meets source p reads.Stray
IsFault source error.OutOfMemory = ⊤

-- Holds if the token has at least one byte, lies within the source, and is what is read at its place at some bracket depth.
pub record IsReadAt (source : List ℕ) (token : Token) : Type 0 where
  pub some : token.from < token.upto
  pub within : token.upto ≤ length source
  pub depth : ℕ
  pub read : reading depth (drop token.from source) ≡ reads.Piece (Some token.kind) (token.upto - token.from)

-- Holds if each token is what is read at its place, and no token ends after the place where a later one begins.
pub record IsInOrder (source : List ℕ) (tokens : List Token) : Type 0 where
  pub each : All (IsReadAt source) tokens
  pub ordered : AllPairs (λ a b. a.upto ≤ b.from) tokens

-- Holds if the source can be cut into tokens, and none of them is a `Name` with the text `name`.
pub record LacksName (source name : List ℕ) : Type 0 where
  pub tokens : List Token
  pub are_tokens : IsTokenList source tokens
  pub none : All (λ t. t.kind ≡ kind.Name → text_of source t ≢ name) tokens
