-- What is made of each row of a list, one by one.
use Rattle.std.proofs.Common.{◌≡◌, ◌∙◌, ℕ, ◌+◌, ◌<◌, ◌≤◌, List, [], ◌∷◌, ◌++◌, length, get_or, drop, Option, None, Some, option_map, option_and_then, refl, ap, sym, arith, append_assoc, append-nil}
use Rattle.std.proofs.lemmas.List.{drop_more, length-drop}
use Rattle.rl_cert.specs.Form.{all_of}

-- What was made, and what is made of the rows that are left.
abbrev pub all_on : {X A : Type 0} → (X → Option A) → List A → List X → Option (List A)
all_on f done rows = option_map (λ more. done ++ more) (all_of f rows)

pub all_on-none : {X A : Type 0} (f : X → Option A) (rows : List X) → all_on f [] rows ≡ all_of f rows
all_on-none {A = A} f rows = by (all_of f rows)
  where
    by : (o : Option (List A)) → option_map (λ (more : List A). [] ++ more) o ≡ o
    by None = refl
    by (Some more) = refl

front : {X : Type 0} (rows : List X) (i : ℕ) (v : X) → i < length rows → v ≡ get_or rows i v → drop i rows ≡ v ∷ drop (i + 1) rows
front rows i v h e = drop_more rows i v h ∙ ap (λ y. y ∷ drop (i + 1) rows) (sym e)

pub all_on-refused : {X A : Type 0} (f : X → Option A) (done : List A) (rows : List X) (i : ℕ) (v : X) → i < length rows → v ≡ get_or rows i v → f v ≡ None
    → all_on f done (drop i rows) ≡ all_of f rows → all_of f rows ≡ None
all_on-refused {A = A} f done rows i v h e none inv =
    sym inv ∙ (ap (all_on f done) (front rows i v h e)
    ∙ ap (λ o. option_map (λ (more : List A). done ++ more) (option_and_then (λ (k : A). option_map (λ (ks : List A). k ∷ ks) (all_of f (drop (i + 1) rows))) o)) none)

pub all_on-next : {X A : Type 0} (f : X → Option A) (done more : List A) (rows : List X) (i : ℕ) (v : X) (x : A) → i < length rows → v ≡ get_or rows i v → f v ≡ Some x
    → more ≡ done ++ x ∷ [] → all_on f done (drop i rows) ≡ all_of f rows → all_on f more (drop (i + 1) rows) ≡ all_of f rows
all_on-next {A = A} f done more rows i v x h e is pushed inv =
    ap (λ ks. all_on f ks (drop (i + 1) rows)) pushed ∙ (by (all_of f (drop (i + 1) rows))
    ∙ (sym (ap (λ o. option_map (λ (more : List A). done ++ more) (option_and_then (λ (k : A). option_map (λ (ks : List A). k ∷ ks) (all_of f (drop (i + 1) rows))) o)) is)
    ∙ (sym (ap (all_on f done) (front rows i v h e)) ∙ inv)))
  where
    by : (o : Option (List A)) → option_map (λ (l : List A). (done ++ x ∷ []) ++ l) o ≡ option_map (λ (l : List A). done ++ l) (option_map (λ (ks : List A). x ∷ ks) o)
    by None = refl
    by (Some l) = ap Some (append_assoc done (x ∷ []) l)

pub all_on-all : {X A : Type 0} (f : X → Option A) (done : List A) (rows : List X) (i : ℕ) → length rows ≤ i → all_on f done (drop i rows) ≡ all_of f rows
    → all_of f rows ≡ Some done
all_on-all {X = X} {A = A} f done rows i h inv = sym inv ∙ by (drop i rows) (omega (arith, length-drop i rows))
  where
    by : (l : List X) → length l ≤ 0 → all_on f done l ≡ Some done
    by [] h = ap Some (append-nil done)
    by (v ∷ l) h = absurd (omega arith)

pub ruleset all_rows = (all_on-none, all_on-refused, all_on-next, all_on-all)
