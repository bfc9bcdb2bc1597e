-- What is read of a list of values, read one by one.
use Rattle.std.proofs.Common.{◌≡◌, ◌∙◌, ℕ, ◌+◌, ◌<◌, ◌≤◌, List, [], ◌∷◌, ◌++◌, length, get_or, drop, Option, None, Some, option_map, option_and_then, refl, ap, sym, arith, append_assoc, append-nil}
use Rattle.std.proofs.lemmas.List.{drop_more, length-drop}
use Rattle.serde_json.specs.Data.{Data}
use Rattle.serde_json.specs.View.{items_view, view}
use Rattle.serde_json.specs.declared.value.Value.{Value}
use Rattle.rl_cert.specs.Form.{items_read}

-- What was read, and what is read of the values that are left.
abbrev pub read_on : {A : Type 0} → (Data → Option A) → List A → List Value → Option (List A)
read_on f done values = option_map (λ more. done ++ more) (items_read f (items_view values))

pub read_on-none : {A : Type 0} (f : Data → Option A) (values : List Value) → read_on f [] values ≡ items_read f (items_view values)
read_on-none {A = A} f values = by (items_read f (items_view values))
  where
    by : (o : Option (List A)) → option_map (λ (more : List A). [] ++ more) o ≡ o
    by None = refl
    by (Some more) = refl

front : (values : List Value) (i : ℕ) (v : Value) → i < length values → v ≡ get_or values i v → drop i values ≡ v ∷ drop (i + 1) values
front values i v h e = drop_more values i v h ∙ ap (λ y. y ∷ drop (i + 1) values) (sym e)

pub read_on-refused : {A : Type 0} (f : Data → Option A) (done : List A) (values : List Value) (i : ℕ) (v : Value) → i < length values → v ≡ get_or values i v → f (view v) ≡ None
    → read_on f done (drop i values) ≡ items_read f (items_view values) → items_read f (items_view values) ≡ None
read_on-refused {A = A} f done values i v h e none inv =
    sym inv ∙ (ap (read_on f done) (front values i v h e)
    ∙ ap (λ o. option_map (λ (more : List A). done ++ more) (option_and_then (λ (k : A). option_map (λ (ks : List A). k ∷ ks) (items_read f (items_view (drop (i + 1) values)))) o)) none)

pub read_on-next : {A : Type 0} (f : Data → Option A) (done more : List A) (values : List Value) (i : ℕ) (v : Value) (x : A) → i < length values → v ≡ get_or values i v → f (view v) ≡ Some x
    → more ≡ done ++ x ∷ [] → read_on f done (drop i values) ≡ items_read f (items_view values) → read_on f more (drop (i + 1) values) ≡ items_read f (items_view values)
read_on-next {A = A} f done more values i v x h e is pushed inv =
    ap (λ ks. read_on f ks (drop (i + 1) values)) pushed ∙ (by (items_read f (items_view (drop (i + 1) values)))
    ∙ (sym (ap (λ o. option_map (λ (more : List A). done ++ more) (option_and_then (λ (k : A). option_map (λ (ks : List A). k ∷ ks) (items_read f (items_view (drop (i + 1) values)))) o)) is)
    ∙ (sym (ap (read_on f done) (front values i v h e)) ∙ inv)))
  where
    by : (o : Option (List A)) → option_map (λ (l : List A). (done ++ x ∷ []) ++ l) o ≡ option_map (λ (l : List A). done ++ l) (option_map (λ (ks : List A). x ∷ ks) o)
    by None = refl
    by (Some l) = ap Some (append_assoc done (x ∷ []) l)

pub read_on-all : {A : Type 0} (f : Data → Option A) (done : List A) (values : List Value) (i : ℕ) → length values ≤ i → read_on f done (drop i values) ≡ items_read f (items_view values)
    → items_read f (items_view values) ≡ Some done
read_on-all {A = A} f done values i h inv = sym inv ∙ by (drop i values) (omega (arith, length-drop i values))
  where
    by : (l : List Value) → length l ≤ 0 → read_on f done l ≡ Some done
    by [] h = ap Some (append-nil done)
    by (v ∷ l) h = absurd (omega arith)

pub ruleset reading = (read_on-none, read_on-refused, read_on-next, read_on-all)
