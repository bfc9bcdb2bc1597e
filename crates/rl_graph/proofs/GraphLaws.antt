-- Laws of `edges_of`: rows in and out of range, and a graph with one row changed.
use Rattle.std.proofs.Common.{◌≡◌, ◌≢◌, ap₂, ℕ, ◌+◌, ◌*◌, ◌^◌, ◌<◌, ◌≤◌, ◌⊎◌, inl, inr, List, [], ◌∷◌, ◌++◌, All, length, get_or, set, replicate, ltb, lt-ltb, le-ltb, ◌&&◌, refl, sym, ◌∙◌, ap, subst, arith, mul-le-mul_right, suc-mul, mul_comm, length-set, Result, Ok, Err, OnOk, OnErr, get_or-set_same, get_or-set_other}
use Rattle.std.proofs.lemmas.Bool.{cases_eq, cases_lt, cases_order, and_from, and_left, and_right, cond-true, cond-false}
use Rattle.std.proofs.lemmas.List.{get_or-replicate, length_push}
use Rattle.std.proofs.lemmas.Nat.{mul-add-lt}
use Rattle.rl_graph.specs.Paths.{Has, IsBounded}
use Rattle.rl_graph.specs.Graph.{Graph, edges_of, IsWhole, IsBare, IsAdded}
use Rattle.rl_graph.proofs.Sums.{Has-push, at-has, at-short, at-get_or}

pub edges-in : (g : Graph) (q l : ℕ) → q < g.states → l < g.letters → edges_of g q l ≡ get_or g.rows (q * g.letters + l) []
edges-in g q l h k = cond-true (ltb q g.states && ltb l g.letters) (get_or g.rows (q * g.letters + l) []) [] (and_from (ltb q g.states) (ltb l g.letters) (lt-ltb q g.states h) (lt-ltb l g.letters k))

pub edges-state : (g : Graph) (q l : ℕ) → g.states ≤ q → edges_of g q l ≡ []
edges-state g q l h = cond-false (ltb q g.states && ltb l g.letters) (get_or g.rows (q * g.letters + l) []) [] (and_left (ltb q g.states) (ltb l g.letters) (le-ltb q g.states h))

pub edges-letter : (g : Graph) (q l : ℕ) → g.letters ≤ l → edges_of g q l ≡ []
edges-letter g q l h = cond-false (ltb q g.states && ltb l g.letters) (get_or g.rows (q * g.letters + l) []) [] (and_right (ltb q g.states) (ltb l g.letters) (le-ltb l g.letters h))

pub bounded-whole : (g : Graph) → IsWhole g → IsBounded (edges_of g) g.states g.letters
bounded-whole g w = record { targets = w.targets; letters = edges-letter g }

-- Each state and letter in range, or not.
abbrev InOrOut : Graph → ℕ → ℕ → Type 0
InOrOut g q l = ((q < g.states) × (l < g.letters)) ⊎ (edges_of g q l ≡ [])

in_or_out : (g : Graph) (q l : ℕ) → InOrOut g q l
in_or_out g q l = by (cases_lt q g.states) (cases_lt l g.letters)
  where
    by : (q < g.states) ⊎ (g.states ≤ q) → (l < g.letters) ⊎ (g.letters ≤ l) → InOrOut g q l
    by (inr h) k = inr (edges-state g q l h)
    by (inl h) (inr k) = inr (edges-letter g q l k)
    by (inl h) (inl k) = inl (h, k)

-- A graph without moves

pub bare : (s k : ℕ) → IsBare (record { states = s; letters = k; rows = replicate (s * k) [] }) s k
bare s k = record { all_states = refl; all_letters = refl; no_move = λ q l. none q l (in_or_out (record { states = s; letters = k; rows = replicate (s * k) [] }) q l) }
  where
    none : (q l : ℕ) → InOrOut (record { states = s; letters = k; rows = replicate (s * k) [] }) q l → edges_of (record { states = s; letters = k; rows = replicate (s * k) [] }) q l ≡ []
    none q l (inr e) = e
    none q l (inl h) = edges-in (record { states = s; letters = k; rows = replicate (s * k) [] }) q l h.0 h.1 ∙ get_or-replicate (s * k) (q * k + l) [] [] (omega (arith, mul-add-lt q k l s h.0 h.1, mul_comm k s))

pub whole-bare : (g : Graph) (s k : ℕ) → IsBare g s k → s < 2 ^ 32 → k < 2 ^ 32 → length g.rows ≡ g.states * g.letters → IsWhole g
whole-bare g s k b hs hk e =
    record {
      few_states = omega (arith, b.all_states);
      few_letters = omega (arith, b.all_letters);
      size = e;
      targets = λ q l m h. absurd (subst (λ (r : List ℕ). Has m r) (b.no_move q l) h);
      short = λ q l. rw b.no_move (omega arith);
    }

-- A graph of given rows

all-has : {A : Type 0} (P : A → Type 0) (x : A) (l : List A) → All P l → Has x l → P x
all-has P x l all h = let r = at-has x l h in subst P (at-get_or l r.0 x x r.1) (all r.0 x (at-short l r.0 x r.1))

pub whole-rows : (g : Graph) → g.states < 2 ^ 32 → g.letters < 2 ^ 32 → length g.rows ≡ g.states * g.letters → All (All (λ m. m < g.states)) g.rows → All (λ r. length r < 2 ^ 32) g.rows → IsWhole g
whole-rows g hs hk e targets short =
    record {
      few_states = hs;
      few_letters = hk;
      size = e;
      targets = λ q l m h. in_range q l m h (in_or_out g q l);
      short = λ q l. is_short q l (in_or_out g q l);
    }
  where
    place : (q l : ℕ) → q < g.states → l < g.letters → q * g.letters + l < length g.rows
    place q l h k = omega (arith, e, mul-add-lt q g.letters l g.states h k, mul_comm g.letters g.states)

    in_range : (q l m : ℕ) → Has m (edges_of g q l) → InOrOut g q l → m < g.states
    in_range q l m i (inr none) = absurd (subst (λ (r : List ℕ). Has m r) none i)
    in_range q l m i (inl h) = all-has (λ x. x < g.states) m (get_or g.rows (q * g.letters + l) []) (targets (q * g.letters + l) [] (place q l h.0 h.1)) (subst (λ (r : List ℕ). Has m r) (edges-in g q l h.0 h.1) i)

    is_short : (q l : ℕ) → InOrOut g q l → length (edges_of g q l) < 2 ^ 32
    is_short q l (inr none) = rw none (omega arith)
    is_short q l (inl h) = subst (λ (r : List ℕ). length r < 2 ^ 32) (sym (edges-in g q l h.0 h.1)) (short (q * g.letters + l) [] (place q l h.0 h.1))

-- A row changed

abbrev pub with_row : Graph → ℕ → ℕ → List ℕ → Graph
with_row g from letter row = record { states = g.states; letters = g.letters; rows = set g.rows (from * g.letters + letter) row }

place-apart : (k q l r m : ℕ) → l < k → m < k → (q ≢ r) ⊎ (l ≢ m) → q * k + l ≢ r * k + m
place-apart k q l r m hl hm ne e = by (cases_order q r) ne
  where
    by : (q ≡ r) ⊎ ((q < r) ⊎ (r < q)) → (q ≢ r) ⊎ (l ≢ m) → ⊥
    by (inl s) (inl n) = n s
    by (inl s) (inr n) = n (omega (arith, ap (λ x. x * k) s, e))
    by (inr (inl h)) n = omega (arith, mul-le-mul_right k h, suc-mul q k, e)
    by (inr (inr h)) n = omega (arith, mul-le-mul_right k h, suc-mul r k, e)

pub row-here : (g : Graph) (from letter : ℕ) (row : List ℕ) → length g.rows ≡ g.states * g.letters → from < g.states → letter < g.letters → edges_of (with_row g from letter row) from letter ≡ row
row-here g from letter row e h k =
    edges-in (with_row g from letter row) from letter h k ∙ get_or-set_same g.rows (from * g.letters + letter) row [] (omega (arith, e, mul-add-lt from g.letters letter g.states h k, mul_comm g.letters g.states))

pub row-elsewhere : (g : Graph) (from letter : ℕ) (row : List ℕ) → letter < g.letters → (q l : ℕ) → (q ≢ from) ⊎ (l ≢ letter) → edges_of (with_row g from letter row) q l ≡ edges_of g q l
row-elsewhere g from letter row k q l ne = by (in_or_out (with_row g from letter row) q l)
  where
    by : InOrOut (with_row g from letter row) q l → edges_of (with_row g from letter row) q l ≡ edges_of g q l
    by (inl h) = edges-in (with_row g from letter row) q l h.0 h.1 ∙ (get_or-set_other g.rows (from * g.letters + letter) (q * g.letters + l) row [] (place-apart g.letters q l from letter h.1 k ne) ∙ sym (edges-in g q l h.0 h.1))
    by (inr e) = out (cases_lt q g.states) (cases_lt l g.letters)
      where
        out : (q < g.states) ⊎ (g.states ≤ q) → (l < g.letters) ⊎ (g.letters ≤ l) → edges_of (with_row g from letter row) q l ≡ edges_of g q l
        out (inr h) j = edges-state (with_row g from letter row) q l h ∙ sym (edges-state g q l h)
        out (inl h) (inr j) = edges-letter (with_row g from letter row) q l j ∙ sym (edges-letter g q l j)
        out (inl h) (inl j) = edges-in (with_row g from letter row) q l h j ∙ (get_or-set_other g.rows (from * g.letters + letter) (q * g.letters + l) row [] (place-apart g.letters q l from letter j k ne) ∙ sym (edges-in g q l h j))

pub whole-row : (g : Graph) (from letter : ℕ) (row : List ℕ) → IsWhole g → from < g.states → letter < g.letters → ((m : ℕ) → Has m row → m < g.states) → length row < 2 ^ 32 → IsWhole (with_row g from letter row)
whole-row g from letter row w h k targets short =
    record {
      few_states = w.few_states;
      few_letters = w.few_letters;
      size = length-set g.rows (from * g.letters + letter) row ∙ w.size;
      targets = λ q l m i. in_range q l m i (cases_eq q from) (cases_eq l letter);
      short = λ q l. is_short q l (cases_eq q from) (cases_eq l letter);
    }
  where
    in_range : (q l m : ℕ) → Has m (edges_of (with_row g from letter row) q l) → (q ≡ from) ⊎ (q ≢ from) → (l ≡ letter) ⊎ (l ≢ letter) → m < g.states
    in_range q l m i (inr n) b = w.targets q l m (subst (λ (r : List ℕ). Has m r) (row-elsewhere g from letter row k q l (inl n)) i)
    in_range q l m i (inl e) (inr n) = w.targets q l m (subst (λ (r : List ℕ). Has m r) (row-elsewhere g from letter row k q l (inr n)) i)
    in_range q l m i (inl e) (inl f) = targets m (subst (λ (r : List ℕ). Has m r) (ap₂ (edges_of (with_row g from letter row)) e f ∙ row-here g from letter row w.size h k) i)

    is_short : (q l : ℕ) → (q ≡ from) ⊎ (q ≢ from) → (l ≡ letter) ⊎ (l ≢ letter) → length (edges_of (with_row g from letter row) q l) < 2 ^ 32
    is_short q l (inr n) b = rw (row-elsewhere g from letter row k q l (inl n)) (w.short q l)
    is_short q l (inl e) (inr n) = rw (row-elsewhere g from letter row k q l (inr n)) (w.short q l)
    is_short q l (inl e) (inl f) = rw (ap₂ (edges_of (with_row g from letter row)) e f ∙ row-here g from letter row w.size h k) short

-- One more move

pub added : (g : Graph) (from letter to : ℕ) → IsWhole g → from < g.states → letter < g.letters → IsAdded g (with_row g from letter (edges_of g from letter ++ to ∷ [])) from letter to
added g from letter to w h k =
    record {
      same_states = refl;
      same_letters = refl;
      here = row-here g from letter (edges_of g from letter ++ to ∷ []) w.size h k;
      elsewhere = row-elsewhere g from letter (edges_of g from letter ++ to ∷ []) k;
    }

pub whole-added : (g : Graph) (from letter to : ℕ) → IsWhole g → from < g.states → letter < g.letters → to < g.states → length (edges_of g from letter) < 4294967295 → IsWhole (with_row g from letter (edges_of g from letter ++ to ∷ []))
whole-added g from letter to w h k t room =
    whole-row g from letter (edges_of g from letter ++ to ∷ []) w h k (λ m i. by m (Has-push m to (edges_of g from letter) i)) (omega (arith, length_push (edges_of g from letter) to))
  where
    by : (m : ℕ) → Has m (edges_of g from letter) ⊎ (m ≡ to) → m < g.states
    by m (inl i) = w.targets from letter m i
    by m (inr e) = rw e t

-- What rows that were pushed to make of the graph

abbrev pub with_rows : Graph → List (List ℕ) → Graph
with_rows g rows = record { states = g.states; letters = g.letters; rows = rows }

-- The rows with one more number at a place.
abbrev pub pushed_at : List (List ℕ) → ℕ → ℕ → List (List ℕ)
pushed_at rows place to = set rows place (get_or rows place [] ++ to ∷ [])

rows-pushed : (g : Graph) (from letter to : ℕ) → from < g.states → letter < g.letters → pushed_at g.rows (from * g.letters + letter) to ≡ set g.rows (from * g.letters + letter) (edges_of g from letter ++ to ∷ [])
rows-pushed g from letter to h k = ap (λ (r : List ℕ). set g.rows (from * g.letters + letter) (r ++ to ∷ [])) (sym (edges-in g from letter h k))

pub whole-pushed : {A E : Type 0} (g : Graph) (from letter to : ℕ) (r : Result A E) (rows : List (List ℕ)) → IsWhole g → from < g.states → letter < g.letters → to < g.states → length (edges_of g from letter) < 4294967295 → OnOk r (rows ≡ pushed_at g.rows (from * g.letters + letter) to) → OnErr r (rows ≡ g.rows) → IsWhole (with_rows g rows)
whole-pushed g from letter to (Ok u) rows w h k t room p q =
    subst (λ (z : List (List ℕ)). IsWhole (with_rows g z)) (sym (p ∙ rows-pushed g from letter to h k)) (whole-added g from letter to w h k t room)
whole-pushed g from letter to (Err u) rows w h k t room p q =
    subst (λ (z : List (List ℕ)). IsWhole (with_rows g z)) (sym q) w

pub added-pushed : {A E : Type 0} (g : Graph) (from letter to : ℕ) (r : Result A E) (rows : List (List ℕ)) → IsWhole g → from < g.states → letter < g.letters → OnOk r (rows ≡ pushed_at g.rows (from * g.letters + letter) to) → OnOk r (IsAdded g (with_rows g rows) from letter to)
added-pushed g from letter to (Ok u) rows w h k p =
    subst (λ (z : List (List ℕ)). IsAdded g (with_rows g z) from letter to) (sym (p ∙ rows-pushed g from letter to h k)) (added g from letter to w h k)
added-pushed g from letter to (Err u) rows w h k p = tt
