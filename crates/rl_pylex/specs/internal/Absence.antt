-- For private contracts: how a quick search for a name goes through a source without cutting it into tokens. It examines runs
-- of ordinary bytes, and skips the literals, comments and joined lines between the runs. A joined line is a backslash with the
-- line end after it.
use Rattle.std.specs.Prelude.{◌≡◌, ◌≢◌, ℕ, zero, suc, ◌+◌, ◌<◌, Bool, true, false, not, ◌&&◌, ◌||◌, ◌==◌, nat_eq, List, [], ◌∷◌, length, slice_index, drop, All, Option, Some, None, if◌then◌else◌}
use Rattle.std.specs.List.{prefix_len, starts_with}
use Rattle.rl_pylex.specs.declared.token_list.Token.{Token}
use Rattle.rl_pylex.specs.declared.token_list.TokenKind.TheVariants as kind
use Rattle.rl_pylex.specs.declared.rules.Fit.{Fit}
use Rattle.rl_pylex.specs.declared.rules.Fit.TheVariants.{Passes, Takes, Breaks}
use Rattle.rl_pylex.specs.Bytes.{has_at, begins, is_blank, is_quote, ends_line, in_line, in_name, is_operator}
use Rattle.rl_pylex.specs.Literals.{size_after}
use Rattle.rl_pylex.specs.Rules.{joined_line}
use Rattle.rl_pylex.specs.Source.{text_of, Reaches}

-- Whether the byte is ordinary: a space, a tab, a form feed, a CR, an LF, a byte of a name, or a byte of the kind `Op`. The
-- other bytes are quotes, `#`, backslashes, and those that no token begins with.
unfoldable pub is_ordinary : ℕ → Bool
is_ordinary c = is_blank c || ends_line c || in_name c || is_operator c

-- Whether the text begins with `name`, and no byte that can continue a name follows it.
unfoldable pub word_at : List ℕ → List ℕ → Bool
word_at name text = starts_with nat_eq text name && not (has_at in_name (length name) text)

-- Whether `name` begins as a whole word nowhere in the run of ordinary bytes with which the text begins. A whole word has no
-- byte that can continue a name directly before or after it. `inside` says whether such a byte comes directly before the text.
abbrev pub lacks_word : List ℕ → Bool → List ℕ → Bool
lacks_word name inside [] = true
lacks_word name inside (c ∷ text) =
    not (is_ordinary c) || (not (not inside && word_at name (c ∷ text)) && lacks_word name (in_name c) text)

-- Holds if each of the first `n` bytes of the text is ordinary, and `word_at` holds at none of them.
abbrev pub IsFree : List ℕ → List ℕ → ℕ → Type 0
IsFree name text n =
    (k : ℕ) → k < n → (is_ordinary (slice_index text k) ≡ true) × (word_at name (drop k text) ≡ false)

-- Whether the byte before the place can continue a name. At the place 0 this is false.
abbrev pub is_inside : ℕ → List ℕ → Bool
is_inside zero text = false
is_inside (suc k) text = has_at in_name k text

-- Holds if the first `at` bytes of the text are ordinary and don't decide `lacks_word`: it gives the same for the whole text
-- as for the text from the place `at` on, if that is given whether the byte before the place can continue a name.
pub record IsSkipped (name text : List ℕ) (at : ℕ) : Type 0 where
  pub run : prefix_len is_ordinary text ≡ at + prefix_len is_ordinary (drop at text)
  pub free : lacks_word name false text ≡ lacks_word name (is_inside at text) (drop at text)

-- Holds if the text begins with a run of exactly `n` ordinary bytes, and `name` begins nowhere in it as a whole word.
pub record IsFreeRun (name text : List ℕ) (n : ℕ) : Type 0 where
  pub run : n ≡ prefix_len is_ordinary text
  pub free : lacks_word name false text ≡ true

-- The number of bytes that a rule takes, or `None` if the rule doesn't fit or breaks.
abbrev pub size_of_fit : Fit → Option ℕ
size_of_fit Passes = None
size_of_fit (Takes size) = Some size
size_of_fit Breaks = None

-- The number of bytes in the comment, the joined line, or the literal without a prefix, with which the text begins: 0 if the
-- text is empty, and `None` if it begins with none of these or nothing closes the literal. The text is what follows a run of
-- ordinary bytes, which includes any prefix of the literal.
unfoldable pub size_between : List ℕ → Option ℕ
size_between text =
    if length text == 0 then Some 0
    else (if has_at is_quote 0 text then size_after 0 text
    else (if begins "#" text then Some (prefix_len in_line text) else size_of_fit (joined_line text)))

-- Holds if the source is cut into pieces up to the place `at`, and none of their tokens is a `Name` with the text `name`.
pub record ReachesWithout (source name : List ℕ) (at : ℕ) : Type 0 where
  pub depth : ℕ
  pub tokens : List Token
  pub reaches : Reaches source at depth tokens
  pub none : All (λ t. t.kind ≡ kind.Name → text_of source t ≢ name) tokens
