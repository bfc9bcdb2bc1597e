-- A set of texts, seen as the list of its paths.
use Rattle.std.proofs.Common.{◌≡◌, ℕ, Bool, true, false, ◌||◌, not, List, [], ◌∷◌, ◌++◌, map, refl, sym, ap, ◌∙◌}
use Rattle.std.specs.Prelude.{bytes_eq, string_bytes, String, if◌then◌else◌}
use Rattle.std.specs.List.{list_any}
use Rattle.std.specs.String.{string_eq}
use Rattle.std.specs.declared.alloc.Global.{Global}
use Rattle.std.proofs.lemmas.List.{map_push}
use Rattle.indexmap.specs.IndexSet.{insert_key}
use Rattle.rl_walk.specs.Steps.{is_met, with_path}

-- A text is in the set if and only if its bytes are among the paths.
pub is_met-keys : (text : String Global) (keys : List (String Global)) → is_met (string_bytes text) (map string_bytes keys) ≡ list_any (string_eq text) keys
is_met-keys text [] = refl
is_met-keys text (key ∷ keys) = ap (λ b. bytes_eq (string_bytes text) (string_bytes key) || b) (is_met-keys text keys)

pub is_met-set : (text : String Global) (path : List ℕ) (keys : List (String Global)) (met : List (List ℕ)) → string_bytes text ≡ path → map string_bytes keys ≡ met → is_met path met ≡ list_any (string_eq text) keys
is_met-set text path keys met e m = ap (λ p. is_met p met) (sym e) ∙ ap (is_met (string_bytes text)) (sym m) ∙ is_met-keys text keys

inserted : (text : String Global) (keys : List (String Global)) (there : Bool) → map string_bytes (if there then keys else keys ++ text ∷ []) ≡ (if there then map string_bytes keys else map string_bytes keys ++ string_bytes text ∷ [])
inserted text keys true = refl
inserted text keys false = map_push string_bytes keys text

pub with_path-set : (text : String Global) (path : List ℕ) (keys new_keys : List (String Global)) (met : List (List ℕ)) → string_bytes text ≡ path → map string_bytes keys ≡ met
    → new_keys ≡ insert_key string_eq keys text → map string_bytes new_keys ≡ with_path met path
with_path-set text path keys new_keys met e m new =
    ap (map string_bytes) new ∙ inserted text keys (list_any (string_eq text) keys)
    ∙ ap (λ b. if b then map string_bytes keys else map string_bytes keys ++ string_bytes text ∷ []) (sym (is_met-set text path keys met e m))
    ∙ ap (λ ms. if is_met path met then ms else ms ++ string_bytes text ∷ []) m
    ∙ ap (λ p. if is_met path met then met else met ++ p ∷ []) e

-- A path that is added because it is new, and one that was met before.
pub met-new : (path : List ℕ) (met : List (List ℕ)) (added : Bool) → added ≡ not (is_met path met) → added ≡ true → is_met path met ≡ false
met-new path met added e new = by (is_met path met) (sym e ∙ new)
  where
    by : (b : Bool) → not b ≡ true → b ≡ false
    by true h = sym h
    by false h = refl

pub met-again : (path : List ℕ) (met : List (List ℕ)) (added : Bool) → added ≡ not (is_met path met) → added ≡ false → is_met path met ≡ true
met-again path met added e old = by (is_met path met) (sym e ∙ old)
  where
    by : (b : Bool) → not b ≡ false → b ≡ true
    by true h = refl
    by false h = sym h

pub with_path-new : (path : List ℕ) (met : List (List ℕ)) → is_met path met ≡ false → with_path met path ≡ met ++ path ∷ []
with_path-new path met e = ap (λ b. if b then met else met ++ path ∷ []) e

pub with_path-again : (path : List ℕ) (met : List (List ℕ)) → is_met path met ≡ true → with_path met path ≡ met
with_path-again path met e = ap (λ b. if b then met else met ++ path ∷ []) e
