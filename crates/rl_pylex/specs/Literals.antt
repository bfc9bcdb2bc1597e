-- A literal: an optional prefix such as `rb`, one or three quotes that open it, a body, and the same quotes that close it.
use Rattle.std.specs.Prelude.{◌≡◌, ℕ, zero, suc, ◌+◌, ◌-◌, Bool, ◌&&◌, ◌==◌, nat_eq, List, [], ◌∷◌, length, take, drop, codes, slice_index, replicate, find, Option, Some, None, option_map, if◌then◌else◌, bytes_eq}
use Rattle.std.specs.List.{list_any, starts_with}
use Rattle.std.specs.Str.{str_to_ascii_lowercase}
use Rattle.rl_pylex.specs.Bytes.{has_at, begins, is_backslash, is_quote, ends_line}

-- Whether these letters are the prefix of a literal, spelled in lower case. The empty list is a prefix.
abbrev pub is_prefix : List ℕ → Bool
is_prefix letters =
    list_any (bytes_eq letters)
    ([] ∷ codes "r" ∷ codes "u" ∷ codes "b" ∷ codes "f" ∷ codes "br" ∷ codes "rb" ∷ codes "fr" ∷ codes "rf" ∷ [])

-- Whether the first `n` bytes of the text are a prefix, in upper or lower case, and a quote directly follows them.
unfoldable pub opens_after : List ℕ → ℕ → Bool
opens_after text n = is_prefix (str_to_ascii_lowercase (take n text)) && has_at is_quote n text

-- The number of bytes in the prefix with which the text begins, if a quote directly follows it: 0, 1 or 2. `None` if the text
-- doesn't begin with a prefix and a quote.
unfoldable pub prefix_size : List ℕ → Option ℕ
prefix_size text = find (opens_after text) (0 ∷ 1 ∷ 2 ∷ [])

-- Whether the text begins with `count` copies of `quote`.
abbrev pub quotes_at : ℕ → ℕ → List ℕ → Bool
quotes_at count quote text = starts_with nat_eq text (replicate count quote)

-- The number of quotes that open a literal, given the text from its first quote on: 3 if the text begins with three equal
-- quotes, otherwise 1.
unfoldable pub quote_count : List ℕ → ℕ
quote_count text = if quotes_at 3 (slice_index text 0) text then 3 else 1

-- The number of bytes that the search for the closing quotes skips together at the beginning of the text: 3 for a backslash
-- and CR LF, 2 for any other backslash and the byte after it, otherwise 1. If a longer code point follows the backslash, its
-- other bytes are skipped later: none of them is a quote, a backslash or a line end. A backslash at the end of the text gives
-- 2.
unfoldable pub unit_size : List ℕ → ℕ
unit_size text =
    if has_at is_backslash 0 text then (if begins "\r\n" (drop 1 text) then 3 else 2) else 1

-- The number of bytes of the text up to the end of the closing quotes. The text is what follows the opening quotes, which are
-- `count` copies of `quote`. `None` if the text ends before the closing quotes or, if `count` is 1, a line end that no
-- backslash escapes comes before them. The first `skip` bytes are counted but not examined.
abbrev pub close_from : ℕ → ℕ → ℕ → List ℕ → Option ℕ
close_from count quote skip [] = None
close_from count quote (suc skip) (c ∷ text) = option_map suc (close_from count quote skip text)
close_from count quote zero (c ∷ text) =
    if quotes_at count quote (c ∷ text) then Some count
    else (if count == 1 && ends_line c then None
    else option_map suc (close_from count quote (unit_size (c ∷ text) - 1) text))

-- The number of bytes in the literal that the text begins with, from its prefix of `n` bytes to its closing quotes. A quote
-- must follow the prefix. `None` if nothing closes the literal.
unfoldable pub size_after : ℕ → List ℕ → Option ℕ
size_after n text =
    let quotes = quote_count (drop n text) in
    option_map (λ m. n + quotes + m) (close_from quotes (slice_index text n) 0 (drop (n + quotes) text))

-- Holds if the whole text is one literal: a prefix of `prefix` bytes, opening quotes, a body, and the closing quotes, which
-- end where the text ends.
pub record IsLiteral (text : List ℕ) : Type 0 where
  pub prefix : ℕ
  pub starts : prefix_size text ≡ Some prefix
  pub closes : size_after prefix text ≡ Some (length text)
