-- Laws of regions: what the texts of two matched trees say about their patterns.
use Rattle.std.proofs.Common.{◌≡◌, ◌∙◌, ℕ, List, Option, Bool, true, false, not, ◌&&◌, refl, sym, ap₂}
use Rattle.std.proofs.lemmas.Bool.{false≢true}
use Rattle.rl_ranges.specs.declared.universe.Universe.{Universe}
use Rattle.rl_ranges.specs.Text.{IsText}
use Rattle.rl_syntax.specs.declared.re.Ending.{Ending}
use Rattle.rl_syntax.specs.declared.re.Ending.TheVariants.{AtEnd}
use Rattle.rl_syntax.specs.Tree.{Tree}
use Rattle.rl_syntax.specs.Cost.{matched}
use Rattle.rl_prio.proofs.MatchLemmas.{matched_to_end}
use Rattle.rl_equiv.specs.declared.compared.Compared.{Compared}
use Rattle.rl_compare.specs.Matched.{matched_tree}
use Rattle.rl_compare.specs.Comparison.{IsOfRegion, IsTrueComparison}
use Rattle.rl_compare.proofs.MatchedLaws.{matched-spans}

-- The matched tree matches a text to its end exactly if the tree with its ending matches the text.
same-matched : (u : Universe) (t : Tree) (ending : Ending) (w : List ℕ) → IsText u w → matched (matched_tree u t ending) AtEnd w ≡ matched t ending w
same-matched u t ending w text = by (matched (matched_tree u t ending) AtEnd w) (matched t ending w) refl refl
  where
    by : (x y : Bool) → matched (matched_tree u t ending) AtEnd w ≡ x → matched t ending w ≡ y → x ≡ y
    by true true e f = refl
    by false false e f = refl
    by true false e f = absurd (false≢true (sym f ∙ (matched-spans u t ending w text).0 ((matched_to_end (matched_tree u t ending) w).0 e)))
    by false true e f = absurd (false≢true (sym e ∙ (matched_to_end (matched_tree u t ending) w).1 ((matched-spans u t ending w text).1 f)))

-- A text of the region of one test is one of the region of another test, if both answer the same for each text.
region-same : (u : Universe) (f g : List ℕ → Bool) (more : Bool) (text : Option (List ℕ)) → ((w : List ℕ) → IsText u w → f w ≡ g w) → IsOfRegion u f more text → IsOfRegion u g more text
region-same u f g more text same r = record {
  some = λ w here. let x = r.some w here in (x.0, sym (same w x.0) ∙ x.1);
  none = λ all here w there. sym (same w there) ∙ r.none all here w there;
}

-- What the texts say about two matched trees, they say about the patterns.
pub patterns-told : (u : Universe) (s t : Tree) (e f : Ending) (c : Compared) → IsTrueComparison u (matched (matched_tree u s e) AtEnd) (matched (matched_tree u t f) AtEnd) c → IsTrueComparison u (matched s e) (matched t f) c
patterns-told u s t e f c told =
    let by : (g : Bool → Bool → Bool) (w : List ℕ) → IsText u w → g (matched (matched_tree u s e) AtEnd w) (matched (matched_tree u t f) AtEnd w) ≡ g (matched s e w) (matched t f w) =
    λ g w text. ap₂ g (same-matched u s e w text) (same-matched u t f w text) in
    record {
      first = region-same u _ _ c.more c.first (by (λ x y. x && not y)) told.first;
      second = region-same u _ _ c.more c.second (by (λ x y. not x && y)) told.second;
      both = region-same u _ _ c.more c.both (by (λ x y. x && y)) told.both;
    }
