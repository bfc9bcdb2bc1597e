-- How words of 64 bits store the truth values of a row. Places and words are numbered from 0. The place `i` is the bit
-- `i % 64` of the word `i / 64`, and the bit 0 of a word is the lowest.
use Rattle.std.specs.Prelude.{◌≡◌, ℕ, ◌*◌, ◌/◌, ◌%◌, ◌<◌, ◌≤◌, Bool, false, ◌==◌, List, length, map, take, drop, slice_index}
use Rattle.std.specs.Int.{bit_at, div_ceil}
use Rattle.std.specs.List.{range_with_len}
use Rattle.std.specs.Simd.Lanes.{chunk, mask_l}

-- The truth value at the place `i`, or false after the last word.
unfoldable pub bit : List ℕ → ℕ → Bool
bit words i = bit_at (slice_index words (i / 64)) (i % 64) == 1

-- The row of the truth values at the first `len` places.
unfoldable pub truths : ℕ → List ℕ → List Bool
truths len words = map (bit words) (range_with_len 0 len)

-- The words that store a row. The bits after its last value are 0.
unfoldable pub words_of : List Bool → List ℕ
words_of row = map (λ k. mask_l (take 64 (drop (64 * k) row))) (range_with_len 0 (div_ceil (length row) 64))

-- Holds if there are as many words as `len` truth values need, 64 in each, and all bits after the last value are 0.
pub record IsPacked (len : ℕ) (words : List ℕ) : Type 0 where
  pub enough : length words ≡ div_ceil len 64
  pub clear : (i : ℕ) → len ≤ i → bit words i ≡ false

-- The words of the row with the index `row` in a table whose rows have `width` words each.
abbrev pub words_at : ℕ → List ℕ → ℕ → List ℕ
words_at width words row = chunk (row * width) width words

-- The rows of a table: `rows` lists of `len` truth values each. Each row begins with a new word.
unfoldable pub table_rows : ℕ → ℕ → List ℕ → List (List Bool)
table_rows rows len words = map (λ row. truths len (words_at (div_ceil len 64) words row)) (range_with_len 0 rows)

-- Holds if the words store a table of `rows` rows with `len` truth values each: there are as many words as this needs,
-- and in each row all bits after the last value are 0.
pub record IsPackedTable (rows len : ℕ) (words : List ℕ) : Type 0 where
  pub enough : length words ≡ rows * div_ceil len 64
  pub packed : (row : ℕ) → row < rows → IsPacked len (words_at (div_ceil len 64) words row)
