-- Splits as values, one after the other.
use Rattle.std.proofs.Common.{◌≡◌, ℕ, suc, ◌+◌, ◌<◌, ◌≤◌, List, [], ◌∷◌, ◌++◌, length, get_or, drop, map, ap, sym, ◌∙◌, append_assoc, Vec, Global}
use Rattle.std.proofs.Math.ListN.{drop_of_length-le}
use Rattle.std.proofs.Math.Numerals.{add-one}
use Rattle.std.proofs.Math.Seq.{drop-cons}
use Rattle.std.proofs.lemmas.List.{map-append, append-nil}
use Rattle.serde_json.specs.Data.{array}
use Rattle.serde_json.specs.View.{items_of, view}
use Rattle.serde_json.specs.declared.value.Value.{Value, Array}
use Rattle.serde_json.proofs.Views.{view-Array}
use Rattle.rl_ranges.specs.declared.universe.Universe.{Universe}
use Rattle.rl_why.specs.declared.reading.SplitReading.{SplitReading}
use Rattle.rl_parts.specs.Members.{list_data}
use Rattle.rl_explained.specs.Replies.{split_data, splits_data}

-- The values of the splits so far, and one more.
pub splits_more : (u : Universe) (pumps : List (List ℕ)) (vs ws : List Value) (v : Value) (l : List SplitReading) (i : ℕ) (r : SplitReading) → i < length l → r ≡ get_or l i r
    → view v ≡ split_data u pumps i r → ws ≡ vs ++ v ∷ [] → map view vs ++ splits_data u pumps i (drop i l) ≡ splits_data u pumps 0 l
    → map view ws ++ splits_data u pumps (i + 1) (drop (i + 1) l) ≡ splits_data u pumps 0 l
splits_more u pumps vs ws v l i r h e shown pushed so_far =
    let later = splits_data u pumps (suc i) (drop (suc i) l) in
    let rest : drop i l ≡ r ∷ drop (suc i) l = drop-cons l i r h ∙ ap (λ x. x ∷ drop (suc i) l) (sym e) in
    rw add-one (ap (λ ds. ds ++ later) (ap (map view) pushed ∙ map-append view vs (v ∷ [])) ∙ append_assoc (map view vs) (view v ∷ []) later
    ∙ ap (λ d. map view vs ++ d ∷ later) shown ∙ ap (λ y. map view vs ++ splits_data u pumps i y) (sym rest) ∙ so_far)

-- The values of all splits, as an array.
pub splits_end : (u : Universe) (pumps : List (List ℕ)) (vs : Vec Value Global) (l : List SplitReading) (i : ℕ) → length l ≤ i
    → map view vs.items ++ splits_data u pumps i (drop i l) ≡ splits_data u pumps 0 l → view (Array vs) ≡ list_data (splits_data u pumps 0 l)
splits_end u pumps vs l i h so_far =
    view-Array vs ∙ ap (λ ds. array (items_of ds))
    (sym (append-nil (map view vs.items)) ∙ ap (λ y. map view vs.items ++ splits_data u pumps i y) (sym (drop_of_length-le l h)) ∙ so_far)
