-- Lemmas about tables whose rows have one word each.
use Rattle.std.proofs.Common.{◌≡◌, ℕ, ◌+◌, ◌*◌, ◌<◌, ◌≤◌, Bool, true, false, eqb, List, [], length, get_or, sym, ap, ◌∙◌, inl, inr, arith, All}
use Rattle.std.specs.Int.{bit_at}
use Rattle.std.proofs.lemmas.Bool.{eq-eqb, eqb-true, cases_eq}
use Rattle.std.proofs.lemmas.Nat.Bits.{bit_at-lt}
use Rattle.std.proofs.lemmas.Simd.{get_or-chunk}
use Rattle.rl_lanes.specs.Tables.{image}
use Rattle.rl_lanes.specs.internal.Words.{IsUnionOf}
use Rattle.rl_lanes.proofs.RowLemmas.{place_within}
use Rattle.rl_lanes.proofs.PackedLemmas.{IsRow-length, IsRow-word}
use Rattle.rl_lanes.proofs.TableLemmas.{IsTable, IsTable-length, IsTable-row, width_of}
use Rattle.rl_lanes.proofs.ImageLemmas.{image_is}

-- The words hold a table whose rows have `n` places, from 1 to 64. The word `chosen_word` holds the values of the row
-- `chosen`, which has one place for each row of the table, and at most 64.
pub record IsNarrow (rows len : ℕ) (words : List ℕ) (table : List (List Bool)) (n : ℕ) (chosen : List Bool) (chosen_word : ℕ) : Type 0 where
  pub table_is : IsTable rows len words table
  pub each : All (λ r. length r ≡ n) table
  pub some : 0 < n
  pub few : n ≤ 64
  pub alike : length chosen ≡ length table
  pub short : length chosen ≤ 64
  pub holds : (i : ℕ) → i < 64 → get_or chosen i false ≡ eqb (bit_at chosen_word i) 1

one_word : (n : ℕ) → 0 < n → n ≤ 64 → width_of n ≡ 1
one_word n some few = omega arith

narrow_width : {rows len n chosen_word : ℕ} {words : List ℕ} {table : List (List Bool)} {chosen : List Bool} (i : ℕ) → IsNarrow rows len words table n chosen chosen_word → i < length table → width_of len ≡ 1
narrow_width {rows} {len} {n} i t lt =
    let same : len ≡ n = sym (IsRow-length (IsTable-row i t.table_is (omega (arith, IsTable-length t.table_is)))) ∙ t.each i [] lt in
    ap width_of same ∙ one_word n t.some t.few

-- A chosen row has a word.
pub narrow_within : {rows len n chosen_word : ℕ} {words : List ℕ} {table : List (List Bool)} {chosen : List Bool} (i : ℕ) → IsNarrow rows len words table n chosen chosen_word → i < 64 → bit_at chosen_word i ≡ 1 → i < length words
narrow_within {rows} {len} {n} {chosen_word} {words} {table} {chosen} i t small on =
    let within : i < length table = omega (arith, place_within chosen i (t.holds i small ∙ eq-eqb _ 1 on), t.alike) in
    omega (arith, within, IsTable-length t.table_is, t.table_is.packed.enough ∙ ap (λ w. rows * w) (narrow_width i t within))

-- That word holds the row's values.
narrow_place : {rows len n chosen_word : ℕ} {words : List ℕ} {table : List (List Bool)} {chosen : List Bool} (i k : ℕ) → IsNarrow rows len words table n chosen chosen_word → i < length table → k < 64 → get_or (get_or table i []) k false ≡ eqb (bit_at (get_or words i 0) k) 1
narrow_place {rows} {len} {n} {chosen_word} {words} i k t lt small =
    let width_is = narrow_width i t lt in
    let place : i ≡ i * width_of len + 0 = omega (arith, ap (λ w. i * w) width_is) in
    IsRow-word (IsTable-row i t.table_is (omega (arith, IsTable-length t.table_is)))
    (ap (λ p. get_or words p 0) place ∙ sym (get_or-chunk (i * width_of len) (width_of len) words 0 0 (omega (arith, width_is)))) k small

-- A bit of the union is a bit of a chosen row.
narrow_held : {rows len n chosen_word : ℕ} {words : List ℕ} {table : List (List Bool)} {chosen : List Bool} (union k : ℕ) → IsNarrow rows len words table n chosen chosen_word → IsUnionOf words chosen_word union → k < 64 → bit_at union k ≡ 1
    → (i : ℕ) × (get_or chosen i false ≡ true) × (get_or (get_or table i []) k false ≡ true)
narrow_held {chosen = chosen} union k t joined small e =
    let held = joined.held k e in
    let on = t.holds held.0 held.1 ∙ eq-eqb _ 1 held.2 in
    (held.0, on, narrow_place held.0 k t (omega (arith, place_within chosen held.0 on, t.alike)) small ∙ eq-eqb _ 1 held.3)

-- The union has no bit after the places of a row.
pub narrow_clear : {rows len n chosen_word : ℕ} {words : List ℕ} {table : List (List Bool)} {chosen : List Bool} (union k : ℕ) → IsNarrow rows len words table n chosen chosen_word → IsUnionOf words chosen_word union → n ≤ k → k < 64 → bit_at union k ≡ 0
narrow_clear {table = table} {chosen = chosen} union k t joined ge small =
    elim (cases_eq (bit_at union k) 1) [
      | inr other ↦ omega (arith, other, bit_at-lt union k)
      | inl e ↦
          let held = narrow_held union k t joined small e in
          absurd (omega (arith, place_within (get_or table held.0 []) k held.2, t.each held.0 [] (omega (arith, place_within chosen held.0 held.1, t.alike))))
    ]

-- The row that the union represents is the image.
pub narrow_image : {rows len n chosen_word : ℕ} {words : List ℕ} {table : List (List Bool)} {chosen : List Bool} (union : ℕ) (into : List Bool) → IsNarrow rows len words table n chosen chosen_word → IsUnionOf words chosen_word union → length into ≡ n → ((k : ℕ) → k < 64 → get_or into k false ≡ eqb (bit_at union k) 1) → into ≡ image table chosen n
narrow_image {n = n} {chosen_word = chosen_word} {table = table} {chosen = chosen} union into t joined long shows =
    image_is table chosen n into t.each long
    (λ k lt e. narrow_held union k t joined (omega (arith, t.few)) (eqb-true _ 1 (sym (shows k (omega (arith, t.few))) ∙ e)))
    (λ k lt (i, on, held).
    let within : i < length table = omega (arith, place_within chosen i on, t.alike) in
    let small : i < 64 = omega (arith, place_within chosen i on, t.short) in
    let bit_small : k < 64 = omega (arith, t.few) in
    shows k bit_small ∙ eq-eqb _ 1 (joined.each i k small (eqb-true _ 1 (sym (t.holds i small) ∙ on)) (eqb-true _ 1 (sym (narrow_place i k t within bit_small) ∙ held))))
