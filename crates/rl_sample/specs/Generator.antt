-- The generator of sampled sources: its numbers, the patterns that they select, and the text. Texts are lists of bytes.
use Rattle.std.specs.Prelude.{ℕ, ◌+◌, ◌*◌, ◌/◌, ◌%◌, List, [], ◌∷◌, ◌++◌, codes, map, slice_get, unwrap_or}
use Rattle.std.specs.Fn.{iterate}
use Rattle.std.specs.List.{concat, range_with_len}

-- The number that follows `x` in the linear congruential generator, whose numbers are less than 2^31.
abbrev pub next_value : ℕ → ℕ
next_value x = (x * 1103515245 + 12345) % 2147483648

-- The eight patterns that the numbers select, as texts of Python's `re`.
abbrev pub patterns : List (List ℕ)
patterns = codes "[a-z]+" ∷ codes "abc" ∷ codes "(?:a|a)*" ∷ codes "a*a*" ∷ codes "a*a*a*" ∷ codes "(?=a)b"
    ∷ codes "\\d+\\.\\d+" ∷ codes "(?:a*)*" ∷ []

-- The pattern that the number `x` selects: its bits 16 to 18, counted from 0 at the lowest, are the index, from 0, in
-- `patterns`.
abbrev pub pattern_of : ℕ → List ℕ
pattern_of x = unwrap_or (slice_get patterns (x / 65536 % 8)) []

-- The line for the number `x`: a call of `re.fullmatch` with the pattern that `x` selects, and a line feed.
unfoldable pub line_of : ℕ → List ℕ
line_of x = codes "re.fullmatch(r\"" ++ pattern_of x ++ codes "\", s)\n"

-- The number that the generator reaches from the seed in `k` steps. It is the seed itself if `k` is 0.
abbrev pub value_at : ℕ → ℕ → ℕ
value_at seed k = iterate next_value k seed

-- The source: a line `import re`, and a line for each of the first `count` numbers after the seed, which itself has none.
abbrev pub source_of : ℕ → ℕ → List ℕ
source_of seed count = codes "import re\n" ++ concat (map (λ k. line_of (value_at seed k)) (range_with_len 1 count))
