-- The matched texts stay in every mode.
use Rattle.std.proofs.Common.{◌≡◌, ℕ, Bool, true, false, List, [], ◌∷◌, length, Ok, refl, sym, ap, ◌∙◌, subst, IsTrue, true≢false}
use Rattle.std.proofs.lemmas.Bool.{cases_Bool}
use mathlib.Core.Logic.{⊎_elim}
use Rattle.rl_ranges.specs.declared.universe.Universe.{Universe}
use Rattle.rl_ranges.specs.Text.{IsText}
use Rattle.rl_syntax.specs.declared.span.Span.{Span}
use Rattle.rl_syntax.specs.declared.pattern.Pattern.{Pattern}
use Rattle.rl_syntax.specs.declared.re.Mode.{Mode}
use Rattle.rl_syntax.specs.declared.re.Ending.{Ending}
use Rattle.rl_syntax.specs.declared.re.Ending.TheVariants.{AtEnd, Anywhere}
use Rattle.rl_syntax.specs.Pattern.{body_of, is_anchored, trail_of, universe_of, pattern_tree, pattern_ending}
use Rattle.rl_syntax.specs.Tree.{Tree}
use Rattle.rl_syntax.specs.Language.{Spans}
use Rattle.rl_syntax.specs.Cost.{matched}
use Rattle.rl_syntax.specs.Modes.{wrapped, ending_of}
use Rattle.rl_syntax.specs.Lowering.{in_turn, one_of, times, lowered, items_lowered, branches_lowered}
use Rattle.rl_syntax.specs.PatTree as p
use Rattle.rl_prio.proofs.MatchLemmas.{matched_to_end, matched_to_some}
use Rattle.rl_pattern.specs.declared.flags.Flags.{Flags}
use Rattle.rl_pattern.specs.Parsed.{IsParsed}
use Rattle.rl_pattern.specs.Cut.{remaining, remaining_items, remaining_branches}
use Rattle.rl_syntax.specs.SameSpans.{OneLanguage, SamePlaces}
use Rattle.rl_pattern.specs.Suggested.{among, no_span, may_go, holds_guard, merged_in, without}
use Rattle.rl_pattern.specs.Reread.{IsRemaining}
use Rattle.rl_pattern.proofs.Final.{right_text_spans}
use Rattle.rl_syntax.proofs.Places.{same_places, wrapped_places}
use Rattle.rl_pattern.proofs.Chain.{left_unguarded}
use Rattle.rl_rewrite.proofs.Fewer.{choice_tree}

bool_same : (a b : Bool) → (IsTrue a → IsTrue b) → (IsTrue b → IsTrue a) → a ≡ b
bool_same true b f g = sym (f refl)
bool_same false true f g = absurd (true≢false (sym (g refl)))
bool_same false false f g = refl

-- Trees that span the same places of a text match it alike.
matched_same : (u : Universe) (s t : Tree) (ending : Ending) (w : List ℕ) → SamePlaces u s t → IsText u w → matched s ending w ≡ matched t ending w
matched_same u s t AtEnd w h is =
    bool_same (matched s AtEnd w) (matched t AtEnd w) (λ x. (matched_to_end t w).1 ((h w is 0 (length w)).0 ((matched_to_end s w).0 x))) (λ x. (matched_to_end s w).1 ((h w is 0 (length w)).1 ((matched_to_end t w).0 x)))
matched_same u s t Anywhere w h is =
    bool_same (matched s Anywhere w) (matched t Anywhere w) (λ x. let r = (matched_to_some s w).0 x in (matched_to_some t w).1 (r.0, (h w is 0 r.0).0 r.1)) (λ x. let r = (matched_to_some t w).0 x in (matched_to_some s w).1 (r.0, (h w is 0 r.0).1 r.1))

-- Nothing is dropped, and nothing taken out.
mutual
  pub none_left : (q : p.PatTree) → lowered (remaining (among []) no_span q) ≡ lowered q
  none_left (p.nothing s) = refl
  none_left (p.class s set) = refl
  none_left (p.seq s qs) = ap in_turn (items_none qs)
  none_left (p.choice s bs) = choice_tree s (remaining_branches (among []) no_span bs) ∙ ap one_of (branches_none bs)
  none_left (p.repeat s r l m g q) = ap (times l m g) (none_left q)
  none_left (p.group s c q) = none_left q
  none_left (p.anchor s k m) = refl
  none_left (p.boundary s n a) = refl
  none_left (p.look s b i r) = refl
  none_left (p.outside s f) = refl

  items_none : (qs : p.PatTrees) → items_lowered (remaining_items (among []) no_span qs) ≡ items_lowered qs
  items_none p.no_items = refl
  items_none (p.item q qs) = ap (λ t. t ∷ items_lowered (remaining_items (among []) no_span qs)) (none_left q) ∙ ap (λ ts. lowered q ∷ ts) (items_none qs)

  branches_none : (bs : p.BranchTrees) → branches_lowered (remaining_branches (among []) no_span bs) ≡ branches_lowered bs
  branches_none p.no_branches = refl
  branches_none (p.branch s q bs) = ap (λ t. t ∷ branches_lowered (remaining_branches (among []) no_span bs)) (none_left q) ∙ ap (λ ts. lowered q ∷ ts) (branches_none bs)

places_refl : (u : Universe) (s t : Tree) → s ≡ t → SamePlaces u s t
places_refl u s t e w is i j = (subst (λ x. Spans x w i j) e, subst (λ x. Spans x w i j) (sym e))

places_trans : (u : Universe) (r s t : Tree) → SamePlaces u r s → SamePlaces u s t → SamePlaces u r t
places_trans u r s t h k w is i j = (λ x. (k w is i j).0 ((h w is i j).0 x), λ x. (h w is i j).1 ((k w is i j).1 x))

module _ (flags : Flags) (u : Universe) (codes : List ℕ) (found : Pattern) (dropped : List Span) (parsed : IsParsed flags u codes (Ok found)) (may : may_go (among dropped) (body_of found) ≡ true) (guarded : holds_guard (body_of found) ≡ true → dropped ≡ []) (language : holds_guard (body_of found) ≡ false → OneLanguage u (without [] (body_of found)) (without dropped (body_of found))) where
  merged : List Span
  merged = merged_in (remaining (among dropped) no_span (body_of found))

  -- What is left after branches are dropped spans the same places.
  dropped_places : SamePlaces u (lowered (body_of found)) (without dropped (body_of found))
  dropped_places =
      ⊎_elim (λ (z : holds_guard (body_of found) ≡ true). places_refl u (lowered (body_of found)) (without dropped (body_of found)) (sym (ap (λ d. without d (body_of found)) (guarded z) ∙ none_left (body_of found))))
      (λ (z : holds_guard (body_of found) ≡ false). places_trans u (lowered (body_of found)) (without [] (body_of found)) (without dropped (body_of found)) (places_refl u (lowered (body_of found)) (without [] (body_of found)) (sym (none_left (body_of found)))) (same_places u (without [] (body_of found)) (without dropped (body_of found)) (left_unguarded (among []) no_span (body_of found) z) (left_unguarded (among dropped) no_span (body_of found) z) (language z)))
      (cases_Bool (holds_guard (body_of found)))

  body_places : SamePlaces u (lowered (body_of found)) (lowered (remaining (among dropped) (among (merged_in (remaining (among dropped) no_span (body_of found)))) (body_of found)))
  body_places w is i j =
      let a = dropped_places w is i j in
      let b = right_text_spans flags u codes found dropped parsed may guarded w i j in
      (λ x. b.1 (a.0 x), λ x. a.1 (b.0 x))

  -- The texts that are matched.
  pub texts_stay : (new : Pattern) → IsRemaining (among dropped) (among (merged_in (remaining (among dropped) no_span (body_of found)))) found new → (mode : Mode) (w : List ℕ) → IsText u w → matched (pattern_tree new mode) (pattern_ending new mode) w ≡ matched (pattern_tree found mode) (pattern_ending found mode) w
  texts_stay new h mode w is =
      let old = lowered (body_of found) in
      let now = lowered (remaining (among dropped) (among (merged_in (remaining (among dropped) no_span (body_of found)))) (body_of found)) in
      let z = universe_of found in
      let l = is_anchored found in
      let t = trail_of found in
      let tree : pattern_tree new mode ≡ wrapped mode z l t now = ap (λ x. wrapped mode x (is_anchored new) (trail_of new) (lowered (body_of new))) h.universe ∙ ap (λ x. wrapped mode z x (trail_of new) (lowered (body_of new))) h.leading ∙ ap (λ x. wrapped mode z l x (lowered (body_of new))) h.trailing ∙ ap (wrapped mode z l t) h.tree in
      let ends : pattern_ending new mode ≡ pattern_ending found mode = ap (ending_of mode) h.trailing in
      ap (λ x. matched x (pattern_ending new mode) w) tree ∙ ap (λ x. matched (wrapped mode z l t now) x w) ends ∙ sym (matched_same u (wrapped mode z l t old) (wrapped mode z l t now) (pattern_ending found mode) w (wrapped_places u z mode l t old now body_places) is)
