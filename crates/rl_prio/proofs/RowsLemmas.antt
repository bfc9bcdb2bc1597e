-- Lemmas on rows that are kept one behind another in one list.
use Rattle.std.proofs.Common.{◌≡◌, ℕ, zero, suc, ◌-◌, ◌<◌, ◌≤◌, List, [], ◌∷◌, ◌++◌, length, take, drop, get_or, slice_index_or, refl, sym, ap, ◌∙◌, arith, length-drop}
use Rattle.std.specs.List.{slice_range}
use Rattle.std.proofs.lemmas.List.{drop-append-le, take-append-le}
use Rattle.std.proofs.Math.ListN.{drop_of_length-le}
use Rattle.std.proofs.Math.Seq.{take-length}
use Rattle.rl_prio.specs.internal.Rows.{rows_from, rows_of, last_end, start_at, RiseTo}

pub RiseTo-start : (size start : ℕ) (ends : List ℕ) → RiseTo size start ends → start ≤ size
RiseTo-start size start [] r = r
RiseTo-start size start (end ∷ ends) r = let rest : end ≤ size = RiseTo-start size end ends r.1 in omega (arith, r.0)

pub RiseTo-last : (size start : ℕ) (ends : List ℕ) → RiseTo size start ends → last_end start ends ≤ size
RiseTo-last size start [] r = r
RiseTo-last size start (end ∷ ends) r = RiseTo-last size end ends r.1

pub RiseTo-grows : (size more start : ℕ) (ends : List ℕ) → size ≤ more → RiseTo size start ends → RiseTo more start ends
RiseTo-grows size more start [] le r = omega (arith, r)
RiseTo-grows size more start (end ∷ ends) le r = (r.0, RiseTo-grows size more end ends le r.1)

pub RiseTo-close : (size start : ℕ) (ends : List ℕ) → RiseTo size start ends → RiseTo size start (ends ++ size ∷ [])
RiseTo-close size start [] r = (r, omega arith)
RiseTo-close size start (end ∷ ends) r = (r.0, RiseTo-close size end ends r.1)

pub last_end-close : (size start : ℕ) (ends : List ℕ) → last_end start (ends ++ size ∷ []) ≡ size
last_end-close size start [] = refl
last_end-close size start (end ∷ ends) = last_end-close size end ends

pub slice_range-append : (xs ys : List ℕ) (start end : ℕ) → start ≤ end → end ≤ length xs → slice_range (xs ++ ys) start end ≡ slice_range xs start end
slice_range-append xs ys start end le within =
    let below : end - start ≤ length (drop start xs) = omega (arith, length-drop start xs) in
    ap (take (end - start)) (drop-append-le start xs ys (omega arith)) ∙ take-append-le (end - start) (drop start xs) ys below

pub rows_from-append : (start : ℕ) (ends xs ys : List ℕ) → RiseTo (length xs) start ends → rows_from start ends (xs ++ ys) ≡ rows_from start ends xs
rows_from-append start [] xs ys r = refl
rows_from-append start (end ∷ ends) xs ys r =
    ap (λ row. row ∷ rows_from end ends (xs ++ ys)) (slice_range-append xs ys start end r.0 (RiseTo-start (length xs) end ends r.1))
    ∙ ap (λ rows. slice_range xs start end ∷ rows) (rows_from-append end ends xs ys r.1)

whole : (start : ℕ) (xs : List ℕ) → slice_range xs start (length xs) ≡ drop start xs
whole start xs = ap (λ n. take n (drop start xs)) (sym (length-drop start xs)) ∙ take-length (drop start xs)

pub rows_from-close : (start : ℕ) (ends xs : List ℕ) → RiseTo (length xs) start ends
    → rows_from start (ends ++ length xs ∷ []) xs ≡ rows_from start ends xs ++ drop (last_end start ends) xs ∷ []
rows_from-close start [] xs r = ap (λ row. row ∷ []) (whole start xs)
rows_from-close start (end ∷ ends) xs r = ap (λ rows. slice_range xs start end ∷ rows) (rows_from-close end ends xs r.1)

pub length-rows_from : (start : ℕ) (ends xs : List ℕ) → length (rows_from start ends xs) ≡ length ends
length-rows_from start [] xs = refl
length-rows_from start (end ∷ ends) xs = ap suc (length-rows_from end ends xs)

pub row_at : (start : ℕ) (ends xs : List ℕ) (i : ℕ) → i < length ends
    → slice_index_or (rows_from start ends xs) i [] ≡ slice_range xs (start_at start ends i) (get_or ends i 0)
row_at start [] xs i lt = absurd (omega arith)
row_at start (end ∷ ends) xs zero lt = refl
row_at start (end ∷ []) xs (suc i) lt = absurd (omega arith)
row_at start (end ∷ next ∷ ends) xs (suc zero) lt = refl
row_at start (end ∷ next ∷ ends) xs (suc (suc i)) lt = row_at end (next ∷ ends) xs (suc i) (omega arith)

pub row_within : (size start : ℕ) (ends : List ℕ) (i : ℕ) → RiseTo size start ends → i < length ends
    → (start_at start ends i ≤ get_or ends i 0) × (get_or ends i 0 ≤ size)
row_within size start [] i r lt = absurd (omega arith)
row_within size start (end ∷ ends) zero r lt = (r.0, RiseTo-start size end ends r.1)
row_within size start (end ∷ []) (suc i) r lt = absurd (omega arith)
row_within size start (end ∷ next ∷ ends) (suc zero) r lt = row_within size end (next ∷ ends) zero r.1 (omega arith)
row_within size start (end ∷ next ∷ ends) (suc (suc i)) r lt = row_within size end (next ∷ ends) (suc i) r.1 (omega arith)

-- A number more at the end of the open row.
pub rows_of-put : (ends xs : List ℕ) (x : ℕ) → RiseTo (length xs) 0 ends
    → rows_of ends (xs ++ x ∷ []) ≡ record (rows_of ends xs) { open_row = (rows_of ends xs).open_row ++ x ∷ [] }
rows_of-put ends xs x r =
    λ i. record { rows = rows_from-append 0 ends xs (x ∷ []) r i; open_row = drop-append-le (last_end 0 ends) xs (x ∷ []) (RiseTo-last (length xs) 0 ends r) i }

-- The open row closed.
pub rows_of-close : (ends xs : List ℕ) → RiseTo (length xs) 0 ends
    → rows_of (ends ++ length xs ∷ []) xs ≡ record { rows = (rows_of ends xs).rows ++ (rows_of ends xs).open_row ∷ []; open_row = [] }
rows_of-close ends xs r =
    λ i. record { rows = rows_from-close 0 ends xs r i; open_row = (ap (λ n. drop n xs) (last_end-close (length xs) 0 ends) ∙ drop_of_length-le xs (omega arith)) i }
