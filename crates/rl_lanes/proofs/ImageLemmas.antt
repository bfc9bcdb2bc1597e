-- Lemmas about the union of chosen rows: which of its places are true, and how far a loop over the chosen rows has come.
use Rattle.std.proofs.Common.{◌≡◌, ℕ, zero, suc, ◌<◌, ◌≤◌, ◌⊎◌, ◌↔◌, Bool, true, false, List, [], ◌∷◌, length, get_or, set, replicate, refl, sym, ap, ◌∙◌, inl, inr, arith, All}
use Rattle.std.specs.List.{fold}
use Rattle.std.proofs.lemmas.Bool.{both_ways, cases_eq, cases_lt, or_cases, or_left, or_right, false≢true}
use Rattle.std.proofs.lemmas.List.{ext_get_or, get_or-replicate, length-set, length-replicate}
use Rattle.std.proofs.lemmas.List.Elements.{All-from_get_or, All-set}
use Rattle.rl_lanes.specs.Rows.{list_or, NoneFrom, IsLeastFrom}
use Rattle.rl_lanes.specs.Runs.{IsRun}
use Rattle.rl_lanes.specs.Tables.{chosen_rows, image}
use Rattle.rl_lanes.proofs.RowLemmas.{length-list_or, get_or-list_or, get_or-replicate_false}

-- ---- a place of the image
-- Some chosen row is true at the place.
abbrev pub IsHeld : List (List Bool) → List Bool → ℕ → Type 0
IsHeld rows chosen k = (i : ℕ) × (get_or chosen i false ≡ true) × (get_or (get_or rows i []) k false ≡ true)

IsHeld-cons : (row : List Bool) (rows : List (List Bool)) (c : Bool) (chosen : List Bool) (k : ℕ) → IsHeld rows chosen k → IsHeld (row ∷ rows) (c ∷ chosen) k
IsHeld-cons row rows c chosen k (i, on, held) = (suc i, on, held)

All-rest : (len : ℕ) (row : List Bool) (rows : List (List Bool)) → All (λ r. length r ≡ len) (row ∷ rows) → All (λ r. length r ≡ len) rows
All-rest len row rows each k d lt = each (suc k) d (omega arith)

length-fold : (len : ℕ) (into : List Bool) (rows : List (List Bool)) (chosen : List Bool) → length into ≡ len → All (λ r. length r ≡ len) rows → length (fold list_or into (chosen_rows rows chosen)) ≡ len
length-fold len into [] chosen long each = long
length-fold len into (row ∷ rows) [] long each = long
length-fold len into (row ∷ rows) (true ∷ chosen) long each = length-fold len (list_or into row) rows chosen (length-list_or into row (long ∙ sym (each 0 [] (omega arith))) ∙ long) (All-rest len row rows each)
length-fold len into (row ∷ rows) (false ∷ chosen) long each = length-fold len into rows chosen long (All-rest len row rows each)

held_from : (len : ℕ) (into : List Bool) (rows : List (List Bool)) (chosen : List Bool) (k : ℕ) → length into ≡ len → All (λ r. length r ≡ len) rows → get_or (fold list_or into (chosen_rows rows chosen)) k false ≡ true → (get_or into k false ≡ true) ⊎ IsHeld rows chosen k
held_from len into [] chosen k long each e = inl e
held_from len into (row ∷ rows) [] k long each e = inl e
held_from len into (row ∷ rows) (true ∷ chosen) k long each e =
    let same : length into ≡ length row = long ∙ sym (each 0 [] (omega arith)) in
    elim (held_from len (list_or into row) rows chosen k (length-list_or into row same ∙ long) (All-rest len row rows each) e) [
      | inr more ↦ inr (IsHeld-cons row rows true chosen k more)
      | inl here ↦ elim (or_cases (get_or into k false) (get_or row k false) (sym (get_or-list_or into row k same) ∙ here)) [
        | inl was ↦ inl was
        | inr held ↦ inr (zero, refl, held)
      ]
    ]
held_from len into (row ∷ rows) (false ∷ chosen) k long each e =
    elim (held_from len into rows chosen k long (All-rest len row rows each) e) [
      | inl was ↦ inl was
      | inr more ↦ inr (IsHeld-cons row rows false chosen k more)
    ]

held_to : (len : ℕ) (into : List Bool) (rows : List (List Bool)) (chosen : List Bool) (k : ℕ) → length into ≡ len → All (λ r. length r ≡ len) rows → (get_or into k false ≡ true) ⊎ IsHeld rows chosen k → get_or (fold list_or into (chosen_rows rows chosen)) k false ≡ true
held_to len into [] chosen k long each (inl was) = was
held_to len into [] chosen k long each (inr (i, on, held)) = absurd (false≢true held)
held_to len into (row ∷ rows) [] k long each (inl was) = was
held_to len into (row ∷ rows) [] k long each (inr (i, on, held)) = absurd (false≢true on)
held_to len into (row ∷ rows) (true ∷ chosen) k long each h =
    let same : length into ≡ length row = long ∙ sym (each 0 [] (omega arith)) in
    let next = held_to len (list_or into row) rows chosen k (length-list_or into row same ∙ long) (All-rest len row rows each) in
    elim h [
      | inl was ↦ next (inl (get_or-list_or into row k same ∙ or_left (get_or into k false) (get_or row k false) was))
      | inr (zero, on, held) ↦ next (inl (get_or-list_or into row k same ∙ or_right (get_or into k false) (get_or row k false) held))
      | inr (suc i, on, held) ↦ next (inr (i, on, held))
    ]
held_to len into (row ∷ rows) (false ∷ chosen) k long each h =
    let next = held_to len into rows chosen k long (All-rest len row rows each) in
    elim h [
      | inl was ↦ next (inl was)
      | inr (zero, on, held) ↦ absurd (false≢true on)
      | inr (suc i, on, held) ↦ next (inr (i, on, held))
    ]

-- The image has as many places as each row.
pub length-image : (rows : List (List Bool)) (chosen : List Bool) (len : ℕ) → All (λ r. length r ≡ len) rows → length (image rows chosen len) ≡ len
unfolding image
length-image rows chosen len each = length-fold len (replicate len false) rows chosen (length-replicate len false) each

-- A place of the image is true if and only if it is true in a chosen row.
pub get_or-image : (rows : List (List Bool)) (chosen : List Bool) (len k : ℕ) → All (λ r. length r ≡ len) rows → (get_or (image rows chosen len) k false ≡ true) ↔ IsHeld rows chosen k
unfolding image
get_or-image rows chosen len k each = (
  (λ e. elim (held_from len (replicate len false) rows chosen k (length-replicate len false) each e) [
    | inl was ↦ absurd (both_ways (get_or (replicate len false) k false) (get_or-replicate_false len k) was)
    | inr held ↦ held
  ]),
  (λ held. held_to len (replicate len false) rows chosen k (length-replicate len false) each (inr held)),
)

same_truth : (a b : Bool) → (a ≡ true → b ≡ true) → (b ≡ true → a ≡ true) → a ≡ b
same_truth true b to from = sym (to refl)
same_truth false true to from = from refl
same_truth false false to from = refl

-- A row with the right number of places that is true exactly where the chosen rows are is the image.
pub image_is : (rows : List (List Bool)) (chosen : List Bool) (len : ℕ) (into : List Bool) → All (λ r. length r ≡ len) rows → length into ≡ len → ((k : ℕ) → k < len → get_or into k false ≡ true → IsHeld rows chosen k) → ((k : ℕ) → k < len → IsHeld rows chosen k → get_or into k false ≡ true) → into ≡ image rows chosen len
image_is rows chosen len into each long held from =
    ext_get_or false into (image rows chosen len) (long ∙ sym (length-image rows chosen len each)) (λ k lt.
    let below : k < len = omega arith in
    let place = get_or-image rows chosen len k each in
    same_truth (get_or into k false) (get_or (image rows chosen len) k false) (λ e. place.1 (held k below e)) (λ e. from k below (place.0 e)))

-- ---- a loop over the chosen rows
-- `into` is the union of the chosen rows before `at`.
pub record JoinsRows (rows : List (List Bool)) (chosen : List Bool) (len at : ℕ) (into : List Bool) : Type 0 where
  pub within : at ≤ length chosen
  pub long : length into ≡ len
  pub held : (k : ℕ) → get_or into k false ≡ true → IsHeld rows chosen k
  pub each : (i k : ℕ) → i < at → get_or chosen i false ≡ true → get_or (get_or rows i []) k false ≡ true → get_or into k false ≡ true

pub JoinsRows-none : (rows : List (List Bool)) (chosen : List Bool) (len : ℕ) → JoinsRows rows chosen len 0 (replicate len false)
JoinsRows-none rows chosen len = record {
  within = omega arith;
  long = length-replicate len false;
  held = λ k e. absurd (both_ways (get_or (replicate len false) k false) (get_or-replicate_false len k) e);
  each = λ i k lt on held. absurd (omega arith);
}

-- Adding a row also accounts for the run after it.
pub JoinsRows-more : (rows : List (List Bool)) (chosen : List Bool) (len at row end : ℕ) (into : List Bool) → length chosen ≡ length rows → All (λ r. length r ≡ len) rows → JoinsRows rows chosen len at into → IsLeastFrom chosen at row → IsRun rows row end → JoinsRows rows chosen len end (list_or into (get_or rows row []))
JoinsRows-more rows chosen len at row end into same each joined least run = record {
  within = omega (arith, run.inside);
  long = length-list_or into added alike ∙ joined.long;
  held = λ k e. elim (or_cases (get_or into k false) (get_or added k false) (sym (get_or-list_or into added k alike) ∙ e)) [
    | inl was ↦ joined.held k was
    | inr new ↦ (row, least.member, new)
  ];
  each = λ i k lt on held. elim (cases_lt i at) [
    | inl before ↦ get_or-list_or into added k alike ∙ or_left (get_or into k false) (get_or added k false) (joined.each i k before on held)
    | inr from ↦ elim (cases_lt i row) [
      | inl between ↦ absurd (both_ways (get_or chosen i false) (least.before i from between) on)
      | inr past ↦ elim (cases_eq i row) [
        | inl here ↦ put k (ap (λ j. get_or (get_or rows j []) k false) (sym here) ∙ held)
        | inr other ↦ put k (run.covered i (omega arith) lt k held)
      ]
    ]
  ];
}
  where
    added : List Bool
    added = get_or rows row []

    alike : length into ≡ length added
    alike = joined.long ∙ sym (each row [] (omega (arith, least.within)))

    put : (k : ℕ) → get_or added k false ≡ true → get_or (list_or into added) k false ≡ true
    put k e = get_or-list_or into added k alike ∙ or_right (get_or into k false) (get_or added k false) e

pub JoinsRows-all : (rows : List (List Bool)) (chosen : List Bool) (len at : ℕ) (into : List Bool) → All (λ r. length r ≡ len) rows → JoinsRows rows chosen len at into → NoneFrom chosen at → into ≡ image rows chosen len
JoinsRows-all rows chosen len at into each joined none =
    image_is rows chosen len into each joined.long (λ k lt e. joined.held k e) (λ k lt (i, on, held). elim (cases_lt i at) [
      | inl before ↦ joined.each i k before on held
      | inr from ↦ absurd (both_ways (get_or chosen i false) (none i from) on)
    ])

-- ---- a table whose rows have equal length keeps that length
pub row_lengths-replicate : (rows len : ℕ) → All (λ row. length row ≡ len) (replicate rows (replicate len false))
row_lengths-replicate rows len = All-from_get_or (λ row. length row ≡ len) (replicate rows (replicate len false)) [] (λ i lt.
    ap length (get_or-replicate rows i (replicate len false) [] (omega (arith, length-replicate rows (replicate len false)))) ∙ length-replicate len false)

pub row_lengths-set : (len row i : ℕ) (to : Bool) (table : List (List Bool)) → row < length table → All (λ r. length r ≡ len) table → All (λ r. length r ≡ len) (set table row (set (get_or table row []) i to))
row_lengths-set len row i to table lt each = All-set (λ r. length r ≡ len) table row _ (length-set (get_or table row []) i to ∙ each row [] lt) each
