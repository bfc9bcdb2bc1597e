-- Lemmas about the rows that the words of a table hold.
use Rattle.std.proofs.Common.{◌≡◌, ◌≢◌, ℕ, suc, ◌+◌, ◌-◌, ◌*◌, ◌/◌, ◌%◌, ◌<◌, ◌≤◌, ◌⊎◌, Bool, false, cond, List, [], length, get_or, set, take, replicate, sym, ap, ◌∙◌, subst, inl, inr, arith}
use Rattle.std.specs.Int.{bit_at, div_ceil}
use Rattle.std.specs.Global.{Vec}
use Rattle.std.proofs.lemmas.Bool.{cases_lt, cases_eq}
use Rattle.std.proofs.lemmas.List.{ext_get_or, get_or_read, get_or-set_same, get_or-set_other, length-set, length-replicate, get_or-replicate, drop-replicate, take-replicate}
use Rattle.std.proofs.lemmas.List.FromFn.{length-map-range_with_len, get_or-map-range_with_len}
use Rattle.std.proofs.lemmas.Simd.{length-chunk, get_or-chunk}
use Rattle.std.proofs.Math.Nat.{mul-le-mul_right}
use Rattle.rl_lanes.specs.Packed.{truths, words_at, table_rows, IsPackedTable}
use Rattle.rl_lanes.proofs.PackedLemmas.{IsRow, IsRow-length, IsRow-set, IsRow-zeros}

-- The number of words in a row of a table.
abbrev pub width_of : ℕ → ℕ
width_of len = div_ceil len 64

-- The words hold the rows of a table.
pub record IsTable (rows len : ℕ) (words : List ℕ) (table : List (List Bool)) : Type 0 where
  pub packed : IsPackedTable rows len words
  pub shows : table_rows rows len words ≡ table

length-table_rows : (rows len : ℕ) (words : List ℕ) → length (table_rows rows len words) ≡ rows
unfolding table_rows
length-table_rows rows len words = length-map-range_with_len (λ row. truths len (words_at (div_ceil len 64) words row)) 0 rows

get_or-table_rows : (rows len : ℕ) (words : List ℕ) (row : ℕ) → row < rows → get_or (table_rows rows len words) row [] ≡ truths len (words_at (width_of len) words row)
unfolding table_rows
get_or-table_rows rows len words row lt = get_or-map-range_with_len (λ row. truths len (words_at (div_ceil len 64) words row)) 0 rows row row [] lt (omega arith)

pub IsTable-length : {rows len : ℕ} {words : List ℕ} {table : List (List Bool)} → IsTable rows len words table → length table ≡ rows
IsTable-length {rows} {len} {words} t = sym (ap length t.shows) ∙ length-table_rows rows len words

pub IsTable-row : {rows len : ℕ} {words : List ℕ} {table : List (List Bool)} (row : ℕ) → IsTable rows len words table → row < rows → IsRow len (words_at (width_of len) words row) (get_or table row [])
IsTable-row {rows} {len} {words} row t lt = record {
  packed = t.packed.packed row lt;
  shows = sym (get_or-table_rows rows len words row lt) ∙ ap (λ l. get_or l row []) t.shows;
}

pub IsTable-from_rows : (rows len : ℕ) (words : List ℕ) (table : List (List Bool)) → length words ≡ rows * width_of len → length table ≡ rows → ((row : ℕ) → row < rows → IsRow len (words_at (width_of len) words row) (get_or table row [])) → IsTable rows len words table
IsTable-from_rows rows len words table enough long each = record {
  packed = record { enough = enough; packed = λ row lt. (each row lt).packed };
  shows = ext_get_or [] (table_rows rows len words) table (length-table_rows rows len words ∙ sym long) (λ row lt.
      let below : row < rows = omega (arith, length-table_rows rows len words) in
      get_or-table_rows rows len words row below ∙ (each row below).shows);
}

-- The words of a row come before those of the next row.
pub row_end : (rows width row : ℕ) → row < rows → row * width + width ≤ rows * width
row_end rows width row lt = omega (arith, mul-le-mul_right {m = suc row} {n = rows} width (omega arith))

-- A table whose words are all 0.
pub IsTable-zeros : (rows len : ℕ) → IsTable rows len (replicate (rows * width_of len) 0) (replicate rows (replicate len false))
IsTable-zeros rows len =
    let width = width_of len in
    IsTable-from_rows rows len _ _ (length-replicate (rows * width) 0) (length-replicate rows (replicate len false)) (λ row lt.
    let left : width ≤ rows * width - row * width = omega (arith, row_end rows width row lt) in
    let words_are : words_at width (replicate (rows * width) 0) row ≡ replicate width 0 = ap (take width) (drop-replicate (row * width) (rows * width) 0) ∙ take-replicate width (rows * width - row * width) 0 left in
    subst (λ ws. IsRow len ws (get_or (replicate rows (replicate len false)) row [])) (sym words_are)
    (subst (IsRow len (replicate width 0)) (sym (get_or-replicate rows row (replicate len false) [] lt)) (IsRow-zeros len)))

-- The words of a row after its word `k` was written.
words_at-set_same : (words : List ℕ) (rows width row k w : ℕ) → length words ≡ rows * width → row < rows → k < width → words_at width (set words (row * width + k) w) row ≡ set (words_at width words row) k w
words_at-set_same words rows width row k w enough lt small =
    let room : row * width + width ≤ length words = omega (arith, row_end rows width row lt) in
    let new = set words (row * width + k) w in
    let old_long = length-chunk (row * width) width words room in
    let new_long = length-chunk (row * width) width new (omega (arith, length-set words (row * width + k) w)) in
    ext_get_or 0 (words_at width new row) (set (words_at width words row) k w) (new_long ∙ sym old_long ∙ sym (length-set (words_at width words row) k w)) (λ j below.
    let in_row : j < width = omega (arith, new_long) in
    elim (cases_eq j k) [
      | inl here ↦
          subst (λ p. get_or (words_at width new row) p 0 ≡ get_or (set (words_at width words row) k w) p 0) (sym here)
          (get_or-chunk (row * width) width new k 0 small ∙ get_or-set_same words (row * width + k) w 0 (omega arith) ∙ sym (get_or-set_same (words_at width words row) k w 0 (omega (arith, old_long))))
      | inr other ↦
          get_or-chunk (row * width) width new j 0 in_row
          ∙ get_or-set_other words (row * width + k) (row * width + j) w 0 (λ e. other (omega arith))
          ∙ sym (get_or-chunk (row * width) width words j 0 in_row)
          ∙ sym (get_or-set_other (words_at width words row) k j w 0 other)
    ])

-- The words of any other row are unchanged.
words_at-set_other : (words : List ℕ) (rows width row k w other : ℕ) → length words ≡ rows * width → row < rows → other < rows → other ≢ row → k < width → words_at width (set words (row * width + k) w) other ≡ words_at width words other
words_at-set_other words rows width row k w other enough lt other_lt apart small =
    let room : other * width + width ≤ length words = omega (arith, row_end rows width other other_lt) in
    let new = set words (row * width + k) w in
    let old_long = length-chunk (other * width) width words room in
    let new_long = length-chunk (other * width) width new (omega (arith, length-set words (row * width + k) w)) in
    ext_get_or 0 (words_at width new other) (words_at width words other) (new_long ∙ sym old_long) (λ j below.
    let in_row : j < width = omega (arith, new_long) in
    get_or-chunk (other * width) width new j 0 in_row
    ∙ get_or-set_other words (row * width + k) (other * width + j) w 0 (rows_apart (cases_lt other row) j in_row)
    ∙ sym (get_or-chunk (other * width) width words j 0 in_row))
  where
    rows_apart : (other < row) ⊎ (row ≤ other) → (j : ℕ) → j < width → other * width + j ≢ row * width + k
    rows_apart (inl before) j in_row e = omega (arith, row_end row width other before)
    rows_apart (inr after) j in_row e = elim (cases_lt row other) [
      | inl past ↦ omega (arith, row_end other width row past)
      | inr same ↦ apart (omega arith)
    ]

-- The word of a place is one of the table's words.
pub table_place_fits : {rows len : ℕ} {table : List (List Bool)} (row i : ℕ) (v : Vec ℕ) → IsTable rows len v.items table → row < length table → i < length (get_or table row []) → row * width_of len + i / 64 < v.len
table_place_fits {rows} {len} row i v t row_in place_in =
    let in_rows : row < rows = omega (arith, IsTable-length t) in
    let in_row : i / 64 < width_of len = omega (arith, IsRow-length (IsTable-row row t in_rows)) in
    omega (arith, row_end rows (width_of len) row in_rows, t.packed.enough, v.ok.0)

-- A table after setting the value at a place of a row, given the old word `w` and the word that replaces it.
pub IsTable-put : {rows len : ℕ} {table : List (List Bool)} (row i p w word : ℕ) (to : Bool) (v : Vec ℕ) → IsTable rows len v.items table → row < length table → i < length (get_or table row []) → p ≡ row * width_of len + i / 64 → w ≡ get_or v.items p w → bit_at word (i % 64) ≡ cond to 1 0 → ((k : ℕ) → k < 64 → k ≢ i % 64 → bit_at word k ≡ bit_at w k) → IsTable rows len (set v.items p word) (set table row (set (get_or table row []) i to))
IsTable-put {rows} {len} {table} row i p w word to v t row_in place_in p_is read at others =
    let width = width_of len in
    let words = v.items in
    let enough = t.packed.enough in
    let in_rows : row < rows = omega (arith, IsTable-length t) in
    let old = IsTable-row row t in_rows in
    let in_row : i / 64 < width = omega (arith, IsRow-length old) in
    let there : p < length words = omega (arith, table_place_fits row i v t row_in place_in, v.ok.0) in
    let was : w ≡ get_or (words_at width words row) (i / 64) 0 = get_or_read words p w there read 0 ∙ ap (λ q. get_or words q 0) p_is ∙ sym (get_or-chunk (row * width) width words (i / 64) 0 in_row) in
    let changed = IsRow-set i word to old place_in at (λ k small other. others k small other ∙ ap (λ n. bit_at n k) was) in
    let new_row = set (get_or table row []) i to in
    let new_table = set table row new_row in
    subst (λ q. IsTable rows len (set words q word) new_table) (sym p_is)
    (IsTable-from_rows rows len (set words (row * width + i / 64) word) new_table (length-set words (row * width + i / 64) word ∙ enough) (length-set table row new_row ∙ IsTable-length t) (λ r lt.
    elim (cases_eq r row) [
      | inl here ↦
          subst (λ q. IsRow len (words_at width (set words (row * width + i / 64) word) q) (get_or new_table q [])) (sym here)
          (subst (λ ws. IsRow len ws (get_or new_table row [])) (sym (words_at-set_same words rows width row (i / 64) word enough in_rows in_row))
          (subst (IsRow len (set (words_at width words row) (i / 64) word)) (sym (get_or-set_same table row new_row [] row_in)) changed))
      | inr other ↦
          subst (λ ws. IsRow len ws (get_or new_table r [])) (sym (words_at-set_other words rows width row (i / 64) word r enough in_rows lt other in_row))
          (subst (IsRow len (words_at width words r)) (sym (get_or-set_other table row r new_row [] other)) (IsTable-row r t lt))
    ]))
