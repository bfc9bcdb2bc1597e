-- For private contracts: what a search for the closing quotes of a literal skips. The body is the text between the opening and
-- the closing quotes; the search gets the text after the opening quotes.
use Rattle.std.specs.Prelude.{◌≡◌, ℕ, ◌+◌, Bool, not, ◌||◌, ◌==◌, List, drop, option_map}
use Rattle.rl_pylex.specs.Bytes.{is_backslash, is_quote, ends_line}
use Rattle.rl_pylex.specs.Literals.{close_from}

-- Whether a byte in the body of a triple-quoted literal can be skipped by itself: it is neither `quote` nor a backslash.
abbrev pub is_long_plain : ℕ → ℕ → Bool
is_long_plain quote c = not (c == quote || is_backslash c)

-- Holds if the search for the closing quotes, which are `count` copies of `quote`, can skip the first `n` bytes of `body`: a
-- search from the place `n` on finds the same end, or none if a search from the beginning finds none.
abbrev pub Skips : ℕ → ℕ → ℕ → List ℕ → Type 0
Skips count quote n body =
    close_from count quote 0 body ≡ option_map (λ m. n + m) (close_from count quote 0 (drop n body))

-- Whether a byte in the body of any literal can be skipped by itself: it isn't a quote, a backslash, a CR or an LF.
abbrev pub is_plain : ℕ → Bool
is_plain c = not (is_quote c || is_backslash c || ends_line c)
