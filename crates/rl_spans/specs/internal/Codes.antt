-- Codes that represent letters. Codes that none of the sets tells apart are one letter.
use Rattle.std.specs.Prelude.{◌≡◌, ℕ, ◌<◌, Bool, true, List, length, slice_index_or}
use Rattle.rl_ranges.specs.Letters.{alike}

-- For each code below `n` there is one in the list `codes` that each of the sets holds exactly if it holds the code.
abbrev pub AreEnough : List (ℕ → Bool) → ℕ → List ℕ → Type 0
AreEnough sets n codes = (code : ℕ) → code < n → (k : ℕ) × (k < length codes) × (alike sets code (slice_index_or codes k 0) ≡ true)
