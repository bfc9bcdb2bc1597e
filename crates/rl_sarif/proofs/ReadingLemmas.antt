-- The keys of a list of values, read one by one.
use Rattle.std.proofs.Common.{◌≡◌, ℕ, ◌+◌, ◌<◌, ◌≤◌, List, [], ◌∷◌, ◌++◌, length, get_or, drop, map, Option, None, Some, option_map, option_and_then, refl, ap, sym, ◌∙◌, arith, append_assoc, append-nil}
use Rattle.std.proofs.lemmas.List.{drop_more, length-drop, map-append}
use Rattle.serde_json.specs.View.{items_view, view}
use Rattle.serde_json.specs.declared.value.Value.{Value}
use Rattle.rl_sarif.specs.declared.key.Key.{Key}
use Rattle.rl_sarif.specs.Baseline.{key_read, keys_read}
use Rattle.rl_sarif.specs.Keys.{EntryKey, key_in}

-- The keys that have been read, followed by the keys of the values that are left.
abbrev pub read_on : List Key → List Value → Option (List EntryKey)
read_on keys values = option_map (λ more. map key_in keys ++ more) (keys_read (items_view values))

pub read_on-none : (values : List Value) → read_on [] values ≡ keys_read (items_view values)
read_on-none values = by (keys_read (items_view values))
  where
    by : (o : Option (List EntryKey)) → option_map (λ (more : List EntryKey). [] ++ more) o ≡ o
    by None = refl
    by (Some more) = refl

front : (values : List Value) (i : ℕ) (v : Value) → i < length values → v ≡ get_or values i v → drop i values ≡ v ∷ drop (i + 1) values
front values i v h e = drop_more values i v h ∙ ap (λ y. y ∷ drop (i + 1) values) (sym e)

pub read_on-refused : (keys : List Key) (values : List Value) (i : ℕ) (v : Value) → i < length values → v ≡ get_or values i v → key_read (view v) ≡ None
    → read_on keys (drop i values) ≡ keys_read (items_view values) → keys_read (items_view values) ≡ None
read_on-refused keys values i v h e none inv =
    sym inv ∙ ap (read_on keys) (front values i v h e)
    ∙ ap (λ o. option_map (λ (more : List EntryKey). map key_in keys ++ more) (option_and_then (λ (k : EntryKey). option_map (λ (ks : List EntryKey). k ∷ ks) (keys_read (items_view (drop (i + 1) values)))) o)) none

pub read_on-next : (keys more : List Key) (values : List Value) (i : ℕ) (v : Value) (key : Key) → i < length values → v ≡ get_or values i v → key_read (view v) ≡ Some (key_in key)
    → more ≡ keys ++ key ∷ [] → read_on keys (drop i values) ≡ keys_read (items_view values) → read_on more (drop (i + 1) values) ≡ keys_read (items_view values)
read_on-next keys more values i v key h e is pushed inv =
    ap (λ ks. read_on ks (drop (i + 1) values)) pushed ∙ by (keys_read (items_view (drop (i + 1) values)))
    ∙ sym (ap (λ o. option_map (λ (more : List EntryKey). map key_in keys ++ more) (option_and_then (λ (k : EntryKey). option_map (λ (ks : List EntryKey). k ∷ ks) (keys_read (items_view (drop (i + 1) values)))) o)) is)
    ∙ sym (ap (read_on keys) (front values i v h e)) ∙ inv
  where
    by : (o : Option (List EntryKey)) → option_map (λ (l : List EntryKey). map key_in (keys ++ key ∷ []) ++ l) o
        ≡ option_map (λ (l : List EntryKey). map key_in keys ++ l) (option_map (λ (ks : List EntryKey). key_in key ∷ ks) o)
    by None = refl
    by (Some l) = ap Some (ap (λ ks. ks ++ l) (map-append key_in keys (key ∷ [])) ∙ append_assoc (map key_in keys) (key_in key ∷ []) l)

pub read_on-all : (keys : List Key) (values : List Value) (i : ℕ) → length values ≤ i → read_on keys (drop i values) ≡ keys_read (items_view values)
    → keys_read (items_view values) ≡ Some (map key_in keys)
read_on-all keys values i h inv = sym inv ∙ by (drop i values) (omega (arith, length-drop i values))
  where
    by : (l : List Value) → length l ≤ 0 → read_on keys l ≡ Some (map key_in keys)
    by [] h = ap Some (append-nil (map key_in keys))
    by (v ∷ l) h = absurd (omega arith)

pub ruleset reading = (read_on-refused)
