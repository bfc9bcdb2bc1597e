-- The text of a right suggestion is read as the pattern without the dropped branches and removed quantifiers, which spans
-- what was left.
use Rattle.std.proofs.Common.{◌≡◌, ◌⊎◌, ℕ, suc, ◌≤◌, Bool, true, false, not, if◌then◌else◌, List, [], ◌∷◌, ◌++◌, length, reverse, Option, Some, None, Result, Ok, Err, refl, sym, ap, ◌∙◌, subst, arith, true≢false}
use Rattle.std.proofs.lemmas.Bool.{cases_Bool}
use Rattle.std.proofs.lemmas.List.{reverse-append, reverse-reverse}
use Rattle.std.proofs.lemmas.Option.{same_Some, none-some}
use mathlib.Core.Logic.{inl, inr, ⊎_elim}
use Rattle.rl_ranges.specs.declared.universe.Universe.{Universe}
use Rattle.rl_syntax.specs.declared.pattern.Pattern.{Pattern}
use Rattle.rl_syntax.specs.Pattern.{body_of}
use Rattle.rl_syntax.specs.Lowering.{lowered}
use Rattle.rl_syntax.specs.PatTree.{PatTree}
use Rattle.rl_pattern.specs.declared.flags.Flags.{Flags}
use Rattle.rl_pattern.specs.declared.parsing.PatError.{PatError}
use Rattle.rl_pattern.specs.declared.parsing.PatError.TheVariants as error
use Rattle.rl_pattern.specs.Tree.{Span, span, SyntaxNode, leaf, mark, repeat, group, nothing, seq, choice, nodes, Branch, branch_body, branch, whole_body, Whole}
use Rattle.rl_pattern.specs.Grammar.{IsBranches, first_branch, next_branch, spelled, Spells}
use Rattle.rl_pattern.specs.internal.Judged.{without_leading, without_trailing}
use Rattle.rl_pattern.specs.Found.{Inner, is_leading, trail_of, is_some_trail, inner_items, items_of, inner_of, inner, front_faults, name_faults, node_names, node_faults, whole_faults}
use Rattle.rl_pattern.specs.Shape.{is_text, shape}
use Rattle.rl_pattern.specs.Parsed.{IsSpelled, IsParsed}
use Rattle.rl_pattern.specs.Thinned.{kept_from}
use Rattle.rl_pattern.specs.Cut.{remaining, gone}
use Rattle.rl_syntax.specs.SameSpans.{SameSpans}
use Rattle.rl_pattern.proofs.Merged.{MayMerge}
use Rattle.rl_pattern.specs.Suggested.{among, no_span, may_go, holds_guard, merged_in, text_of}
use Rattle.rl_pattern.proofs.ShapeParts.{none_first}
use Rattle.rl_pattern.proofs.InnerBare.{items_are, branch_items, rest_of}
use Rattle.rl_pattern.proofs.Leaves.{nil_parts}
use Rattle.rl_pattern.proofs.Linking.{Good}
use Rattle.rl_pattern.proofs.Seams.{own_out, Clean, AllClean}
use Rattle.rl_pattern.proofs.Merging.{merged_same}
use Rattle.rl_pattern.proofs.Cutting.{stays, Free}
use Rattle.rl_pattern.specs.Reread.{IsRemaining, IsReread}
use Rattle.rl_pattern.proofs.Rereading.{cut_found, cut_reads}
use Rattle.rl_pattern.proofs.Conditions.{good_of}
use Rattle.rl_pattern.proofs.Premises.{AllOf, all_back, good_outer, outer_holes, whole_bare}
use Rattle.rl_pattern.proofs.Marks.{Placed, placed_le, left_placed, placed_more, rule_merges, left_twice}
use Rattle.rl_pattern.proofs.Suggesting.{PlacedAll, body_placed, whole_placed, items_placed, branches_placed, at_large, clean_of, items_clean, own_false}

pub several_body : (r : Span) (bs : List Branch) (b : Branch) → (bs ≡ [] → ⊥) → items_of (whole_body r (bs ++ b ∷ [])) ≡ None
several_body r [] b some = absurd (some refl)
several_body r (c ∷ []) b some = refl
several_body r (c ∷ c2 ∷ bs) b some = refl

module _ (text : Bool) (w : List ℕ) where
  pub some_branch : {kd : _} {fl : Flags} {i j : ℕ} {bs : List Branch} → IsBranches text w kd fl i j bs → bs ≡ [] → ⊥
  some_branch (first_branch h) e = cc e
  some_branch (next_branch {bs = bs} h at_j may hs) e = go bs _ e
    where
      go : (bs : List Branch) (b : Branch) → bs ++ b ∷ [] ≡ [] → ⊥
      go [] b e = cc e
      go (x ∷ bs) b e = cc e

  -- A body of one branch is that branch.
  pub one_body : (call : Flags) (p : Whole) → Spells call text w p → (ps : List SyntaxNode) → items_of p.body ≡ Some ps → p.body ≡ branch_body p.place ps
  one_body call p (spelled {i = i} f (first_branch {ps = qs} its)) ps e = ap (branch_body (span i (length w))) (same_Some qs ps (sym (branch_items (span i (length w)) qs (items_are its)) ∙ e))
  one_body call p (spelled {i = i} f (next_branch {j = j} {bs = bs} {ps = qs} h at_j may hs)) ps e = absurd (none-some ps (sym (several_body (span i (length w)) bs (branch (span (suc j) (length w)) qs) (some_branch h)) ∙ e))

  -- The inner items are a part of all items.
  leading_rest : (ps : List SyntaxNode) → (xs : List SyntaxNode) × (ps ≡ xs ++ without_leading ps)
  leading_rest [] = ([], refl)
  leading_rest (p ∷ ps) = go (is_leading p) refl (leading_rest ps)
    where
      go : (b : Bool) → is_leading p ≡ b → (xs : List SyntaxNode) × (ps ≡ xs ++ without_leading ps) → (xs : List SyntaxNode) × ((p ∷ ps) ≡ xs ++ (if is_leading p then without_leading ps else p ∷ ps))
      go true e h = (p ∷ h.0, ap (λ l. p ∷ l) h.1 ∙ sym (ap (λ b. (p ∷ h.0) ++ (if b then without_leading ps else p ∷ ps)) e))
      go false e h = ([], sym (ap (λ b. if b then without_leading ps else p ∷ ps) e))

  pub inner_part : (ps : List SyntaxNode) → (xs : List SyntaxNode) × (ys : List SyntaxNode) × (ps ≡ xs ++ (inner_items ps ++ ys))
  inner_part ps =
      let rs = without_leading ps in
      let lead : (xs : List SyntaxNode) × (ps ≡ xs ++ without_leading ps) = leading_rest ps in
      let found : (xs : List SyntaxNode) × (reverse rs ≡ xs ++ without_trailing (reverse rs)) = rest_of (reverse rs) in
      (lead.0, reverse found.0, lead.1 ∙ ap (λ z. lead.0 ++ z) (sym (reverse-reverse rs) ∙ ap reverse found.1 ∙ reverse-append found.0 (without_trailing (reverse rs))))

module _ (u : Universe) where
  all_le : (ps : List SyntaxNode) (i j : ℕ) → PlacedAll u ps i j → i ≤ j
  all_le [] i j h = h
  all_le (p ∷ ps) i j (k, h, hs) = omega (arith, placed_le (shape u p) i k h, all_le ps k j hs)

  all_front : (xs ys : List SyntaxNode) (i j : ℕ) → PlacedAll u (xs ++ ys) i j → PlacedAll u xs i j
  all_front [] ys i j h = all_le ys i j h
  all_front (x ∷ xs) ys i j (k, h, hs) = (k, h, all_front xs ys k j hs)

  all_back_part : (xs ys : List SyntaxNode) (i j : ℕ) → PlacedAll u (xs ++ ys) i j → PlacedAll u ys i j
  all_back_part [] ys i j h = h
  all_back_part (x ∷ xs) ys i j (k, h, hs) = from_more ys k j i (placed_le (shape u x) i k h) (all_back_part xs ys k j hs)
    where
      from_more : (ys : List SyntaxNode) (k j i : ℕ) → i ≤ k → PlacedAll u ys k j → PlacedAll u ys i j
      from_more [] k j i l h = omega (arith, l, h)
      from_more (y ∷ ys) k j i l (m, h, hs) = (m, placed_more (shape u y) k m i m l (omega arith) h, hs)

  -- The parts of a pattern without its outer anchors are in place.
  pub inner_placed : (call : Flags) (text : Bool) (w : List ℕ) (p : Whole) → Spells call text w p → (i : ℕ) × Placed (shape u (inner p).body) i (length w)
  inner_placed call text w p (spelled {i = i} f (first_branch {ps = ps} its)) =
      let n = length w in
      let r = span i n in
      let cut = inner_part text w ps in
      let all = subst (λ z. PlacedAll u z i n) cut.2 (items_placed u text w its) in
      let mid = all_front (inner_items ps) cut.1 i n (all_back_part cut.0 (inner_items ps ++ cut.1) i n all) in
      (i, subst (λ o. Placed (shape u (inner_of r (branch_body r ps) o).body) i n) (sym (branch_items r ps (items_are its))) (body_placed u r (inner_items ps) i n mid))
  inner_placed call text w p (spelled {i = i} f (next_branch {j = j} {bs = bs} {ps = ps} h at_j may hs)) =
      let n = length w in
      let r = span i n in
      let all = bs ++ branch (span (suc j) n) ps ∷ [] in
      (i, subst (λ o. Placed (shape u (inner_of r (whole_body r all) o).body) i n) (sym (several_body r bs (branch (span (suc j) n) ps) (some_branch text w h))) (whole_placed u r all i n (branches_placed u text w (next_branch h at_j may hs))))

  module _ (drop out : Span → Bool) where
    abbrev CleanItem : SyntaxNode → Type 0
    CleanItem p = (own_out u drop out p ≡ false) × Clean u drop out p

    lead_clean : (p : SyntaxNode) → is_leading p ≡ true → CleanItem p
    lead_clean (mark r f m) h = (refl, tt)
    lead_clean (leaf r f x) h = (refl, tt)
    lead_clean (repeat r q n g p) h = absurd (true≢false (sym h))
    lead_clean (group r k p) h = absurd (true≢false (sym h))
    lead_clean (nothing r) h = (refl, tt)
    lead_clean (seq r ps) h = absurd (true≢false (sym h))
    lead_clean (choice r bs) h = absurd (true≢false (sym h))

    trail_clean : (p : SyntaxNode) → is_some_trail (trail_of p) ≡ true → CleanItem p
    trail_clean (mark r f m) h = (refl, tt)
    trail_clean (leaf r f x) h = (refl, tt)
    trail_clean (repeat r q n g p) h = absurd (true≢false (sym h))
    trail_clean (group r k p) h = absurd (true≢false (sym h))
    trail_clean (nothing r) h = (refl, tt)
    trail_clean (seq r ps) h = absurd (true≢false (sym h))
    trail_clean (choice r bs) h = absurd (true≢false (sym h))

    clean_items : (ps : List SyntaxNode) → AllOf CleanItem ps → AllClean u drop out (nodes ps)
    clean_items [] h = tt
    clean_items (p ∷ ps) ((o, c), hs) = (o, c, clean_items ps hs)

    body_clean : (r : Span) (ps : List SyntaxNode) → AllOf CleanItem ps → Clean u drop out (branch_body r ps)
    body_clean r [] h = tt
    body_clean r (p ∷ []) h = h.0.1
    body_clean r (p ∷ q ∷ ps) h = clean_items (p ∷ q ∷ ps) h

    items_each : (ps : List SyntaxNode) → AllClean u drop out (nodes ps) → AllOf CleanItem ps
    items_each [] h = tt
    items_each (p ∷ ps) (o, c, hs) = ((o, c), items_each ps hs)

    each_clean : (t : Span) (ps : List SyntaxNode) → Good u drop out (branch_body t ps) → MayMerge out (remaining drop no_span (shape u (branch_body t ps))) → AllOf CleanItem ps
    each_clean t [] gd h = tt
    each_clean t (p ∷ []) gd h = ((own_false u drop out p h, clean_of u drop out p gd (at_large h)), tt)
    each_clean t (p ∷ q ∷ ps) gd h = items_each (p ∷ q ∷ ps) (items_clean u drop out (nodes (p ∷ q ∷ ps)) gd h)

    clean_outer : (r t : Span) (p : SyntaxNode) (o : Option (List SyntaxNode)) → ((ps : List SyntaxNode) → o ≡ Some ps → p ≡ branch_body r ps) → Good u drop out (inner_of t p o).body → MayMerge out (remaining drop no_span (shape u (inner_of t p o).body)) → Clean u drop out p
    clean_outer r t p None f gd h = clean_of u drop out p gd (at_large h)
    clean_outer r t p (Some ps) f gd h = subst (Clean u drop out) (sym (f ps refl)) (body_clean r ps (all_back CleanItem lead_clean trail_clean ps (each_clean t (inner_items ps) gd h)))

module _ (flags : Flags) (u : Universe) (w : List ℕ) (found : Pattern) (whole : Whole) (sp : IsSpelled flags u w found whole) (dropped : List Span) (may : may_go (among dropped) (body_of found) ≡ true) (guarded : holds_guard (body_of found) ≡ true → dropped ≡ []) where
  abbrev D : Span → Bool
  D = among dropped

  abbrev kept : PatTree
  kept = remaining (among dropped) no_span (body_of found)

  abbrev merged : List Span
  merged = merged_in (remaining (among dropped) no_span (body_of found))

  abbrev O : Span → Bool
  O = among (merged_in (remaining (among dropped) no_span (body_of found)))

  abbrev I : Inner
  I = inner whole

  in_place : (i : ℕ) × Placed (body_of found) i (length w)
  in_place = let h = inner_placed u flags (is_text u) w whole sp.read.spelled in (h.0, subst (λ t. Placed t h.0 (length w)) (sym sp.pattern.body) h.1)

  merges : MayMerge O kept
  merges = rule_merges kept in_place.0 (length w) (left_placed D (body_of found) in_place.0 (length w) in_place.1)

  fine : node_faults (is_text u) (inner whole).body ≡ []
  fine =
      let all = none_first (whole_faults flags (is_text u) whole) sp.allowed in
      let a = nil_parts (front_faults (is_text u) flags whole.fronts) (name_faults [] (node_names whole.body) ++ node_faults (is_text u) (inner whole).body) all in
      (nil_parts (name_faults [] (node_names whole.body)) (node_faults (is_text u) (inner whole).body) a.1).1

  inner_good : Good u D O (inner whole).body
  inner_good = good_of u D O (inner whole).body fine (sym (ap (may_go D) sp.pattern.body) ∙ may)

  good : Good u D O whole.body
  good = good_outer u D O whole.place whole.place whole.body (items_of whole.body) refl (one_body (is_text u) w flags whole sp.read.spelled) inner_good

  clean : Clean u D O whole.body
  clean = clean_outer u D O whole.place whole.place whole.body (items_of whole.body) (one_body (is_text u) w flags whole sp.read.spelled) inner_good (subst (λ t. MayMerge O (remaining D no_span t)) sp.pattern.body merges)

  free : Free u D O flags w whole
  free = ⊎_elim (λ (z : holds_guard (body_of found) ≡ true). inl (λ x. ap (λ ds. among ds x) (guarded z))) (λ (z : holds_guard (body_of found) ≡ false). inr (λ none bs e. whole_bare u D O whole.place bs (ap (λ p. holds_guard (shape u p)) (sym e) ∙ ap (λ (o : Option (List SyntaxNode)). holds_guard (shape u (inner_of whole.place whole.body o).body)) (sym none) ∙ sym (ap holds_guard sp.pattern.body) ∙ z))) (cases_Bool (holds_guard (body_of found)))

  same_codes : text_of (body_of found) dropped merged w ≡ kept_from (stays u D O whole.body) 0 w
  same_codes =
      let holes : (t : ℕ) → gone D O (body_of found) t ≡ gone D O (shape u whole.body) t = λ t. ap (λ p. gone D O p t) sp.pattern.body ∙ outer_holes u D O whole.place whole.place whole.body (items_of whole.body) refl (one_body (is_text u) w flags whole sp.read.spelled) t in
      λ i. kept_from (λ t. not (holes t i)) 0 w

  -- There is a pattern that the text is read as.
  pub suggested_found : (new : Pattern) × IsParsed flags u (text_of (body_of found) dropped merged w) (Ok new) × IsRemaining D O found new
  suggested_found =
      let h : (new : Pattern) × IsParsed flags u (kept_from (stays u D O whole.body) 0 w) (Ok new) × IsRemaining D O found new = cut_found u flags D O w found whole sp good clean free in
      (h.0, subst (λ v. IsParsed flags u v (Ok h.0)) (sym same_codes) h.1, h.2)

  -- Whatever the result of parsing the text is.
  pub suggested_reads : (r : Result Pattern PatError) → IsParsed flags u (text_of (body_of found) dropped merged w) r → (r ≡ Err error.OutOfMemory) ⊎ ((new : Pattern) × (r ≡ Ok new) × IsRemaining D O found new)
  suggested_reads r h = cut_reads u flags D O w found whole sp good clean free r (subst (λ v. IsParsed flags u v r) same_codes h)

  -- The removed quantifiers change no span.
  pub merged_spans : SameSpans (lowered (remaining D O (body_of found))) (lowered kept)
  merged_spans = subst (λ t. SameSpans (lowered t) (lowered kept)) (left_twice D O (body_of found)) (merged_same O kept merges)

-- The same, for a pattern that was parsed from codes.
pub right_text_found : (flags : Flags) (u : Universe) (w : List ℕ) (found : Pattern) (dropped : List Span) → IsParsed flags u w (Ok found) → may_go (among dropped) (body_of found) ≡ true → (holds_guard (body_of found) ≡ true → dropped ≡ []) → (new : Pattern) × IsParsed flags u (text_of (body_of found) dropped (merged_in (remaining (among dropped) no_span (body_of found))) w) (Ok new) × IsRemaining (among dropped) (among (merged_in (remaining (among dropped) no_span (body_of found)))) found new
right_text_found flags u w found dropped (whole, sp) may guarded = suggested_found flags u w found whole sp dropped may guarded

pub right_text_reads : (flags : Flags) (u : Universe) (w : List ℕ) (found : Pattern) (dropped : List Span) → IsParsed flags u w (Ok found) → may_go (among dropped) (body_of found) ≡ true → (holds_guard (body_of found) ≡ true → dropped ≡ []) → (r : Result Pattern PatError) → IsParsed flags u (text_of (body_of found) dropped (merged_in (remaining (among dropped) no_span (body_of found))) w) r → IsReread (among dropped) (among (merged_in (remaining (among dropped) no_span (body_of found)))) found r
right_text_reads flags u w found dropped (whole, sp) may guarded r h = suggested_reads flags u w found whole sp dropped may guarded r h

pub right_text_spans : (flags : Flags) (u : Universe) (w : List ℕ) (found : Pattern) (dropped : List Span) → IsParsed flags u w (Ok found) → may_go (among dropped) (body_of found) ≡ true → (holds_guard (body_of found) ≡ true → dropped ≡ []) → SameSpans (lowered (remaining (among dropped) (among (merged_in (remaining (among dropped) no_span (body_of found)))) (body_of found))) (lowered (remaining (among dropped) no_span (body_of found)))
right_text_spans flags u w found dropped (whole, sp) may guarded = merged_spans flags u w found whole sp dropped may guarded
