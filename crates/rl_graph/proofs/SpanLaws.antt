-- Laws of spans: rows after more numbers were appended, rows whose span comes last, and rows of which one is replaced.
use Rattle.std.proofs.Common.{◌≡◌, ℕ, zero, suc, ◌+◌, ◌-◌, ◌^◌, ◌<◌, ◌≤◌, ◌⊎◌, inl, inr, List, [], ◌∷◌, ◌++◌, All, length, get_or, set, take, drop, replicate, ltb, le-ltb, lt-ltb, refl, sym, ap, ap₂, ◌∙◌, subst, arith, length-append, length-drop, length-set, get_or-set_same, get_or-set_other, Result, Ok, Err, OnErr}
use Rattle.std.proofs.Math.Seq.{take-nil}
use Rattle.std.proofs.lemmas.Bool.{cases_eq, cases_lt, cases_order, cond-true, cond-false}
use Rattle.std.proofs.lemmas.List.{take-append-le, take_all, drop-append-le, append-nil, length-replicate, get_or-replicate, get_or_append_left, get_or_past, get_or_push, get_or_read, ext_get_or, set-get_or}
use Rattle.std.proofs.lemmas.List.FromFn.{length-map-range_with_len, get_or-map-range_with_len}
use Rattle.std.proofs.lemmas.List.Elements.{All-append, All-set, All-replicate}
use Rattle.std.specs.List.{slice_range}
use Rattle.rl_graph.specs.declared.row_list.Span.{Span}
use Rattle.rl_graph.specs.Spans.{row_of, no_span, rows_in, AreWithin}
use Rattle.rl_graph.specs.internal.GrownRows.{IsGrown, IsRowAt, IsFilledRowAt, IsPlaced}

-- One row

pub row-shared : (numbers apart : List ℕ) (span : Span) → span.start < span.end → row_of numbers apart span ≡ slice_range numbers span.start span.end
row-shared numbers apart span h = cond-true (ltb span.start span.end) (slice_range numbers span.start span.end) apart (lt-ltb span.start span.end h)

pub row-apart : (numbers apart : List ℕ) (span : Span) → span.end ≤ span.start → row_of numbers apart span ≡ apart
row-apart numbers apart span h = cond-false (ltb span.start span.end) (slice_range numbers span.start span.end) apart (le-ltb span.start span.end h)

slice-grown : (numbers more : List ℕ) (start end : ℕ) → start < end → end ≤ length numbers → slice_range (numbers ++ more) start end ≡ slice_range numbers start end
slice-grown numbers more start end h k =
    ap (take (end - start)) (drop-append-le start numbers more (omega arith)) ∙ take-append-le (end - start) (drop start numbers) more (omega (arith, length-drop start numbers))

row-grown : (numbers more apart : List ℕ) (span : Span) → span.end ≤ length numbers → row_of (numbers ++ more) apart span ≡ row_of numbers apart span
row-grown numbers more apart span h = by (cases_lt span.start span.end)
  where
    by : (span.start < span.end) ⊎ (span.end ≤ span.start) → row_of (numbers ++ more) apart span ≡ row_of numbers apart span
    by (inl k) = row-shared (numbers ++ more) apart span k ∙ slice-grown numbers more span.start span.end k h ∙ sym (row-shared numbers apart span k)
    by (inr k) = row-apart (numbers ++ more) apart span k ∙ sym (row-apart numbers apart span k)

-- All rows

pub rows-length : (numbers : List ℕ) (apart : List (List ℕ)) (spans : List Span) → length (rows_in numbers apart spans) ≡ length spans
unfolding rows_in
rows-length numbers apart spans = length-map-range_with_len (λ k. row_of numbers (get_or apart k []) (get_or spans k no_span)) 0 (length spans)

pub rows-at : (numbers : List ℕ) (apart : List (List ℕ)) (spans : List Span) (k : ℕ) → k < length spans → get_or (rows_in numbers apart spans) k [] ≡ row_of numbers (get_or apart k []) (get_or spans k no_span)
unfolding rows_in
rows-at numbers apart spans k h = get_or-map-range_with_len (λ k. row_of numbers (get_or apart k []) (get_or spans k no_span)) 0 (length spans) k k [] h (omega arith)

-- Rows are determined by the row at each place.
rows-by : (numbers : List ℕ) (apart : List (List ℕ)) (spans : List Span) (rows : List (List ℕ)) → length rows ≡ length spans → ((k : ℕ) → k < length spans → row_of numbers (get_or apart k []) (get_or spans k no_span) ≡ get_or rows k []) → rows_in numbers apart spans ≡ rows
rows-by numbers apart spans rows e h =
    ext_get_or [] (rows_in numbers apart spans) rows (rows-length numbers apart spans ∙ sym e)
    (λ i k. let lt : i < length spans = omega (arith, k, rows-length numbers apart spans) in rows-at numbers apart spans i lt ∙ h i lt)

pub rows-grown : (old new : List ℕ) (apart : List (List ℕ)) (spans : List Span) → AreWithin old apart spans → IsGrown old new → rows_in new apart spans ≡ rows_in old apart spans
rows-grown old new apart spans w g =
    rows-by new apart spans (rows_in old apart spans) (rows-length old apart spans)
    (λ k h. subst (λ (n : List ℕ). row_of n (get_or apart k []) (get_or spans k no_span) ≡ get_or (rows_in old apart spans) k []) (sym g.1)
    (row-grown old g.0 (get_or apart k []) (get_or spans k no_span) (w.within k no_span h) ∙ sym (rows-at old apart spans k h)))

longer : (old new : List ℕ) → IsGrown old new → length old ≤ length new
longer old new g = omega (arith, ap length g.1, length-append old g.0)

grown-within : (old new : List ℕ) (spans : List Span) → IsGrown old new → All (λ (span : Span). span.end ≤ length old) spans → All (λ (span : Span). span.end ≤ length new) spans
grown-within old new spans g all = λ k d h. let a : (get_or spans k d).end ≤ length old = all k d h in omega (arith, longer old new g)

pub within-grown : (old new : List ℕ) (apart : List (List ℕ)) (spans : List Span) → AreWithin old apart spans → IsGrown old new → AreWithin new apart spans
within-grown old new apart spans w g = record {
  few = w.few;
  within = grown-within old new spans g w.within;
  short = subst (λ (rows : List (List ℕ)). All (λ row. length row < 2 ^ 32) rows) (sym (rows-grown old new apart spans w g)) w.short;
}

-- A span comes last

one : {A : Type 0} (P : A → Type 0) (x : A) → P x → All P (x ∷ [])
one P x p zero d h = p
one P x p (suc k) d h = absurd (omega (arith, h))

pub rows-pushed : (old new row : List ℕ) (apart : List (List ℕ)) (spans : List Span) (span : Span) → AreWithin old apart spans → IsGrown old new → IsRowAt new row span → rows_in new apart (spans ++ span ∷ []) ≡ rows_in old apart spans ++ row ∷ []
rows-pushed old new row apart spans span w g s =
    rows-by new apart (spans ++ span ∷ []) (rows_in old apart spans ++ row ∷ [])
    (length-append (rows_in old apart spans) (row ∷ []) ∙ ap (λ n. n + 1) (rows-length old apart spans) ∙ sym (length-append spans (span ∷ [])))
    (λ k h. by k (cases_lt k (length spans)) (omega (arith, h, length-append spans (span ∷ []))))
  where
    rows : List (List ℕ)
    rows = rows_in old apart spans

    by : (k : ℕ) → (k < length spans) ⊎ (length spans ≤ k) → k < length spans + 1 → row_of new (get_or apart k []) (get_or (spans ++ span ∷ []) k no_span) ≡ get_or (rows_in old apart spans ++ row ∷ []) k []
    by k (inl lt) h =
        ap (row_of new (get_or apart k [])) (get_or_append_left spans (span ∷ []) no_span k lt) ∙ (sym (rows-at new apart spans k lt) ∙ (ap (λ r. get_or r k []) (rows-grown old new apart spans w g)
        ∙ sym (get_or_append_left (rows_in old apart spans) (row ∷ []) [] k (omega (arith, lt, rows-length old apart spans)))))
    by k (inr le) h =
        ap₂ (row_of new) (get_or_past apart k [] (omega (arith, le, w.few))) (get_or_push spans span no_span k (omega (arith, le, h))) ∙ (s.same
        ∙ sym (get_or_push (rows_in old apart spans) row [] k (omega (arith, le, h, rows-length old apart spans))))

pub within-pushed : (old new row : List ℕ) (apart : List (List ℕ)) (spans : List Span) (span : Span) → AreWithin old apart spans → IsGrown old new → IsRowAt new row span → length row < 2 ^ 32 → AreWithin new apart (spans ++ span ∷ [])
within-pushed old new row apart spans span w g s short = record {
  few = omega (arith, w.few, length-append spans (span ∷ []));
  within = All-append (λ (span : Span). span.end ≤ length new) spans (span ∷ []) (grown-within old new spans g w.within) (one (λ (span : Span). span.end ≤ length new) span s.within);
  short = subst (λ (rows : List (List ℕ)). All (λ row. length row < 2 ^ 32) rows) (sym (rows-pushed old new row apart spans span w g s))
      (All-append (λ row. length row < 2 ^ 32) (rows_in old apart spans) (row ∷ []) w.short (one (λ (row : List ℕ). length row < 2 ^ 32) row short));
}

-- One row is replaced

-- What changed: numbers were appended, and the row of one place is in its new span or stored apart.
pub record IsSet (old new : List ℕ) (apart moved : List (List ℕ)) (spans : List Span) (place : ℕ) (span : Span) (row : List ℕ) : Type 0 where
  pub grown : IsGrown old new
  pub elsewhere : (k : ℕ) → (k ≡ place → ⊥) → get_or moved k [] ≡ get_or apart k []
  pub few : length moved ≤ length spans
  pub within : span.end ≤ length new
  pub same : row_of new (get_or moved place []) span ≡ row

pub rows-set : (old new : List ℕ) (apart moved : List (List ℕ)) (spans : List Span) (place : ℕ) (span : Span) (row : List ℕ) → place < length spans → AreWithin old apart spans → IsSet old new apart moved spans place span row → rows_in new moved (set spans place span) ≡ set (rows_in old apart spans) place row
rows-set old new apart moved spans place span row there w s =
    rows-by new moved (set spans place span) (set (rows_in old apart spans) place row)
    (length-set (rows_in old apart spans) place row ∙ rows-length old apart spans ∙ sym (length-set spans place span))
    (λ k h. by k (cases_eq k place) (omega (arith, h, length-set spans place span)))
  where
    by : (k : ℕ) → (k ≡ place) ⊎ (k ≡ place → ⊥) → k < length spans → row_of new (get_or moved k []) (get_or (set spans place span) k no_span) ≡ get_or (set (rows_in old apart spans) place row) k []
    by k (inl e) h =
        subst (λ n. row_of new (get_or moved n []) (get_or (set spans place span) n no_span) ≡ get_or (set (rows_in old apart spans) place row) n []) (sym e)
        (ap (row_of new (get_or moved place [])) (get_or-set_same spans place span no_span there) ∙ (s.same
        ∙ sym (get_or-set_same (rows_in old apart spans) place row [] (omega (arith, there, rows-length old apart spans)))))
    by k (inr ne) h =
        ap₂ (row_of new) (s.elsewhere k ne) (get_or-set_other spans place k span no_span ne) ∙ (sym (rows-at new apart spans k h) ∙ (ap (λ r. get_or r k []) (rows-grown old new apart spans w s.grown)
        ∙ sym (get_or-set_other (rows_in old apart spans) place k row [] ne)))

pub within-set : (old new : List ℕ) (apart moved : List (List ℕ)) (spans : List Span) (place : ℕ) (span : Span) (row : List ℕ) → place < length spans → AreWithin old apart spans → IsSet old new apart moved spans place span row → length row < 2 ^ 32 → AreWithin new moved (set spans place span)
within-set old new apart moved spans place span row there w s short = record {
  few = omega (arith, s.few, length-set spans place span);
  within = All-set (λ (span : Span). span.end ≤ length new) spans place span s.within (grown-within old new spans s.grown w.within);
  short = subst (λ (rows : List (List ℕ)). All (λ row. length row < 2 ^ 32) rows) (sym (rows-set old new apart moved spans place span row there w s))
      (All-set (λ row. length row < 2 ^ 32) (rows_in old apart spans) place row short w.short);
}

-- A row that is already stored apart is replaced there, and its span stays.
pub rows-moved : (numbers : List ℕ) (apart moved : List (List ℕ)) (spans : List Span) (place : ℕ) (row : List ℕ) → place < length spans → AreWithin numbers apart spans → IsSet numbers numbers apart moved spans place (get_or spans place no_span) row → rows_in numbers moved spans ≡ set (rows_in numbers apart spans) place row
rows-moved numbers apart moved spans place row there w s =
    subst (λ (xs : List Span). rows_in numbers moved xs ≡ set (rows_in numbers apart spans) place row) (set-get_or spans place no_span)
    (rows-set numbers numbers apart moved spans place (get_or spans place no_span) row there w s)

pub within-moved : (numbers : List ℕ) (apart moved : List (List ℕ)) (spans : List Span) (place : ℕ) (row : List ℕ) → place < length spans → AreWithin numbers apart spans → IsSet numbers numbers apart moved spans place (get_or spans place no_span) row → length row < 2 ^ 32 → AreWithin numbers moved spans
within-moved numbers apart moved spans place row there w s short =
    subst (λ (xs : List Span). AreWithin numbers moved xs) (set-get_or spans place no_span)
    (within-set numbers numbers apart moved spans place (get_or spans place no_span) row there w s short)

-- The row at a place of rows that are kept

pub row-now : (numbers : List ℕ) (apart : List (List ℕ)) (spans : List Span) (rows : List (List ℕ)) (place : ℕ) (span : Span) → rows_in numbers apart spans ≡ rows → place < length spans → span ≡ get_or spans place span → row_of numbers (get_or apart place []) span ≡ get_or rows place []
row-now numbers apart spans rows place span e h s =
    ap (row_of numbers (get_or apart place [])) (get_or_read spans place span h s no_span) ∙ (sym (rows-at numbers apart spans place h) ∙ ap (λ (r : List (List ℕ)). get_or r place []) e)

pub row-past : (numbers : List ℕ) (apart : List (List ℕ)) (spans : List Span) (rows : List (List ℕ)) (place : ℕ) → rows_in numbers apart spans ≡ rows → length spans ≤ place → [] ≡ get_or rows place []
row-past numbers apart spans rows place e h = sym (get_or_past rows place [] (omega (arith, h, ap length e, rows-length numbers apart spans)))

slice-last : (numbers : List ℕ) (start end : ℕ) → start < end → end ≤ length numbers → length numbers ≤ end → drop start numbers ≡ slice_range numbers start end
slice-last numbers start end h k l = sym (take_all (end - start) (drop start numbers) (omega (arith, length-drop start numbers)))

-- How one row becomes longer by a number: moved out, as the last one of the numbers, apart, and begun

pub set-out : (numbers : List ℕ) (apart moved : List (List ℕ)) (spans : List Span) (rows : List (List ℕ)) (place : ℕ) (span : Span) (row : List ℕ) (number : ℕ) → rows_in numbers apart spans ≡ rows → AreWithin numbers apart spans → place < length spans → span ≡ get_or spans place span → span.start < span.end → row ≡ slice_range numbers span.start span.end → IsPlaced apart moved place (row ++ number ∷ []) → IsSet numbers numbers apart moved spans place no_span (get_or rows place [] ++ number ∷ [])
set-out numbers apart moved spans rows place span row number e w there s filled r p = record {
  grown = ([], sym (append-nil numbers));
  elsewhere = p.elsewhere;
  few = p.few (length spans) there w.few;
  within = omega arith;
  same = p.here ∙ ap (λ (r : List ℕ). r ++ number ∷ []) (r ∙ (sym (row-shared numbers (get_or apart place []) span filled) ∙ row-now numbers apart spans rows place span e there s));
}

pub set-last : (old new : List ℕ) (apart : List (List ℕ)) (spans : List Span) (rows : List (List ℕ)) (place : ℕ) (span longer : Span) (number : ℕ) → rows_in old apart spans ≡ rows → AreWithin old apart spans → place < length spans → span ≡ get_or spans place span → span.start < span.end → length old ≤ span.end → IsGrown old new → IsFilledRowAt new (drop span.start old ++ number ∷ []) longer → IsSet old new apart apart spans place longer (get_or rows place [] ++ number ∷ [])
set-last old new apart spans rows place span longer number e w there s filled last g h = record {
  grown = g;
  elsewhere = λ k ne. refl;
  few = w.few;
  within = h.within;
  same = row-shared new (get_or apart place []) longer h.filled ∙ (h.same ∙ ap (λ (r : List ℕ). r ++ number ∷ [])
      (slice-last old span.start span.end filled in_old last ∙ (sym (row-shared old (get_or apart place []) span filled) ∙ row-now old apart spans rows place span e there s)));
}
  where
    in_old : span.end ≤ length old
    in_old = subst (λ (x : Span). x.end ≤ length old) (sym s) (w.within place span there)

pub set-apart : (numbers : List ℕ) (apart moved : List (List ℕ)) (spans : List Span) (rows : List (List ℕ)) (place : ℕ) (span : Span) (number : ℕ) → rows_in numbers apart spans ≡ rows → AreWithin numbers apart spans → place < length spans → span ≡ get_or spans place span → span.end ≤ span.start → IsPlaced apart moved place (get_or apart place [] ++ number ∷ []) → IsSet numbers numbers apart moved spans place (get_or spans place no_span) (get_or rows place [] ++ number ∷ [])
set-apart numbers apart moved spans rows place span number e w there s empty p = record {
  grown = ([], sym (append-nil numbers));
  elsewhere = p.elsewhere;
  few = p.few (length spans) there w.few;
  within = w.within place no_span there;
  same = ap (row_of numbers (get_or moved place [])) (sym at) ∙ (row-apart numbers (get_or moved place []) span empty ∙ (p.here ∙ ap (λ (r : List ℕ). r ++ number ∷ [])
      (sym (row-apart numbers (get_or apart place []) span empty) ∙ row-now numbers apart spans rows place span e there s)));
}
  where
    at : span ≡ get_or spans place no_span
    at = get_or_read spans place span there s no_span

pub set-begun : (old new : List ℕ) (apart : List (List ℕ)) (spans : List Span) (rows : List (List ℕ)) (place : ℕ) (span begun : Span) (number : ℕ) → rows_in old apart spans ≡ rows → AreWithin old apart spans → place < length spans → span ≡ get_or spans place span → span.end ≤ span.start → get_or apart place [] ≡ [] → IsGrown old new → IsFilledRowAt new (drop (length old) old ++ number ∷ []) begun → IsSet old new apart apart spans place begun (get_or rows place [] ++ number ∷ [])
set-begun old new apart spans rows place span begun number e w there s empty none g h = record {
  grown = g;
  elsewhere = λ k ne. refl;
  few = w.few;
  within = h.within;
  same = row-shared new (get_or apart place []) begun h.filled ∙ (h.same ∙ ap (λ (r : List ℕ). r ++ number ∷ [])
      (drop_all old ∙ (sym none ∙ (sym (row-apart old (get_or apart place []) span empty) ∙ row-now old apart spans rows place span e there s))));
}
  where
    drop_all : (xs : List ℕ) → drop (length xs) xs ≡ []
    drop_all xs = by (drop (length xs) xs) (omega (arith, length-drop (length xs) xs))
      where
        by : (ys : List ℕ) → length ys ≡ 0 → ys ≡ []
        by [] e = refl
        by (y ∷ ys) e = absurd (omega arith)

-- If a row couldn't be stored apart, nothing has changed

pub still : (numbers : List ℕ) (apart moved : List (List ℕ)) (spans : List Span) (place : ℕ) → IsPlaced apart moved place (get_or apart place []) → rows_in numbers moved spans ≡ rows_in numbers apart spans
still numbers apart moved spans place p =
    rows-by numbers moved spans (rows_in numbers apart spans) (rows-length numbers apart spans)
    (λ k h. ap (λ (row : List ℕ). row_of numbers row (get_or spans k no_span)) (each k (cases_eq k place)) ∙ sym (rows-at numbers apart spans k h))
  where
    each : (k : ℕ) → (k ≡ place) ⊎ (k ≡ place → ⊥) → get_or moved k [] ≡ get_or apart k []
    each k (inl e) = rw e p.here
    each k (inr ne) = p.elsewhere k ne

pub within-still : (numbers : List ℕ) (apart moved : List (List ℕ)) (spans : List Span) (place : ℕ) → place < length spans → AreWithin numbers apart spans → IsPlaced apart moved place (get_or apart place []) → AreWithin numbers moved spans
within-still numbers apart moved spans place there w p = record {
  few = p.few (length spans) there w.few;
  within = w.within;
  short = subst (λ (rows : List (List ℕ)). All (λ row. length row < 2 ^ 32) rows) (sym (still numbers apart moved spans place p)) w.short;
}

-- A place for a row is made apart

pub pushed-none : (apart : List (List ℕ)) (k : ℕ) → get_or (apart ++ [] ∷ []) k [] ≡ get_or apart k []
pushed-none apart k = by (cases_order k (length apart))
  where
    by : (k ≡ length apart) ⊎ ((k < length apart) ⊎ (length apart < k)) → get_or (apart ++ [] ∷ []) k [] ≡ get_or apart k []
    by (inl e) = get_or_push apart [] [] k (sym e) ∙ sym (get_or_past apart k [] (omega arith))
    by (inr (inl h)) = get_or_append_left apart ([] ∷ []) [] k h
    by (inr (inr h)) = get_or_past (apart ++ [] ∷ []) k [] (omega (arith, length-append apart ([] ∷ []))) ∙ sym (get_or_past apart k [] (omega arith))

-- Rows without numbers

pub rows-empty : (numbers : List ℕ) (apart : List (List ℕ)) (spans : List Span) (count : ℕ) → apart ≡ [] → spans ≡ replicate count no_span → rows_in numbers apart spans ≡ replicate count []
rows-empty numbers apart spans count none e =
    rows-by numbers apart spans (replicate count []) (length-replicate count [] ∙ sym (ap length e ∙ length-replicate count no_span))
    (λ k h. let lt : k < count = omega (arith, h, ap length e, length-replicate count no_span) in
    ap₂ (λ (xs : List (List ℕ)) (ys : List Span). row_of numbers (get_or xs k []) (get_or ys k no_span)) none e
    ∙ (ap (row_of numbers []) (get_or-replicate count k no_span no_span lt) ∙ sym (get_or-replicate count k [] [] lt)))

pub within-empty : (numbers : List ℕ) (apart : List (List ℕ)) (spans : List Span) (count : ℕ) → apart ≡ [] → spans ≡ replicate count no_span → AreWithin numbers apart spans
within-empty numbers apart spans count none e = record {
  few = omega (arith, ap length none);
  within = subst (λ (xs : List Span). All (λ (span : Span). span.end ≤ length numbers) xs) (sym e) (All-replicate (λ (span : Span). span.end ≤ length numbers) count no_span (omega arith));
  short = subst (λ (rows : List (List ℕ)). All (λ row. length row < 2 ^ 32) rows) (sym (rows-empty numbers apart spans count none e))
      (All-replicate (λ (row : List ℕ). length row < 2 ^ 32) count [] (omega arith));
}

pub resized : (old new : List Span) (size count : ℕ) → old ≡ [] → size ≡ 0 → new ≡ take count old ++ replicate (count - size) no_span → new ≡ replicate count no_span
resized old new size count e s h =
    let n : count - size ≡ count = omega (arith, s) in
    h ∙ (ap₂ (λ (xs : List Span) m. take count xs ++ replicate m no_span) e n ∙ ap (λ (xs : List Span). xs ++ replicate count no_span) (take-nil count))

-- What holds in any case if a call fails

pub at_err : {A E P : Type 0} (r : Result A E) → P → OnErr r P
at_err (Ok x) p = tt
at_err (Err e) p = p
