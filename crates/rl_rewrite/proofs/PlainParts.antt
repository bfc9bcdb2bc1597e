-- Of a part without a branch as many quantifiers are taken out as of what is left where nothing is dropped.
use Rattle.std.proofs.Common.{◌≡◌, ℕ, Bool, true, false, not, ◌&&◌, ◌||◌, if◌then◌else◌, List, [], ◌∷◌, ◌++◌, length, map, ◌==◌, Option, Some, None, refl, sym, ap, ◌∙◌, subst, true≢false, arith}
use Rattle.std.proofs.lemmas.List.{nil_from_length}
use Rattle.std.proofs.lemmas.Bool.{eqb-true}
use Rattle.rl_syntax.specs.declared.span.Span.{Span}
use Rattle.rl_syntax.specs.declared.pattern.Pattern.{Pattern}
use Rattle.rl_syntax.specs.Pattern.{body_of, universe_of}
use Rattle.rl_syntax.specs.PatTree.{PatTree, PatTrees, nothing, class, seq, choice, repeat, group, anchor, boundary, look, outside, no_items, item, no_branches, branch, branches_of, pat_of}
use Rattle.rl_syntax.specs.Counting.{branch_tree}
use Rattle.rl_syntax.specs.declared.pat.Pat.{Pat}
use Rattle.rl_syntax.specs.declared.pat.Branch.{Branch}
use Rattle.rl_syntax.specs.declared.pat.Pat.TheVariants as V
use Rattle.rl_pattern.specs.declared.flags.Flags.{Flags}
use Rattle.rl_pattern.specs.Cut.{remaining, remaining_items}
use Rattle.rl_pattern.specs.Suggested.{among, no_span, holds_capture, some_capture, branches_in, items_branches, choice_branches, is_allowed, merged_in, items_merged, under, merged_at, inside, Tried, none_tried}
use Rattle.rl_pattern.proofs.Linking.{or_none}
use Rattle.rl_rewrite.specs.Plain.{IsPlain, empty_suggestion}
use Rattle.rl_rewrite.specs.RightSuggestion.{IsRightSuggestion}
use Rattle.rl_rewrite.specs.Verdicts.{IsVerdict}
use Rattle.rl_rewrite.specs.internal.Choices.{is_some_branch, holds_branch, items_hold_branch}
use Rattle.rl_rewrite.proofs.PartTrees.{choice-tree}

none_first : (xs ys : List Span) → xs ++ ys ≡ [] → xs ≡ []
none_first [] ys e = refl
none_first (x ∷ xs) ys e = absurd (cc e)

none_last : (xs ys : List Span) → xs ++ ys ≡ [] → ys ≡ []
none_last [] ys e = e
none_last (x ∷ xs) ys e = absurd (cc e)

some_none : (s : Span) (ss : List Span) → s ∷ ss ≡ [] → ⊥
some_none s ss e = cc

-- A choice holds a branch where its list isn't empty.
any_branch : (bs : List Branch) → not (length bs == 0) ≡ is_some_branch (branches_of (map branch_tree bs))
any_branch [] = refl
any_branch (b ∷ bs) = grind (arith)

pub some_branches : (s : Span) (bs : List Branch) (part : Pat) (empty : Bool) → part ≡ V.Choice s bs → empty ≡ (length bs == 0) → not empty ≡ holds_branch (pat_of part)
some_branches s bs part empty e f = ap not f ∙ any_branch bs ∙ sym (ap holds_branch (ap pat_of e ∙ choice-tree s bs))

-- A part that holds no branch lists none, and one that holds a branch lists one.
mutual
  pub branches_none : (p : PatTree) → holds_branch p ≡ false → branches_in p ≡ []
  branches_none (nothing s) h = refl
  branches_none (class s set) h = refl
  branches_none (seq s ps) h = items_none ps h
  branches_none (choice s no_branches) h = refl
  branches_none (choice s (branch r p bs)) h = absurd (true≢false h)
  branches_none (repeat s q l m g p) h = branches_none p h
  branches_none (group s c p) h = branches_none p h
  branches_none (anchor s k m) h = refl
  branches_none (boundary s n a) h = refl
  branches_none (look s b i r) h = refl
  branches_none (outside s f) h = refl

  items_none : (ps : PatTrees) → items_hold_branch ps ≡ false → items_branches ps ≡ []
  items_none no_items h = refl
  items_none (item p ps) h =
      let c = or_none (holds_branch p) (items_hold_branch ps) h in
      ap (λ xs. xs ++ items_branches ps) (branches_none p c.0) ∙ items_none ps c.1

mutual
  pub branches_some : (p : PatTree) → holds_branch p ≡ true → branches_in p ≡ [] → ⊥
  branches_some (nothing s) h e = true≢false (sym h)
  branches_some (class s set) h e = true≢false (sym h)
  branches_some (seq s ps) h e = items_some ps h e
  branches_some (choice s no_branches) h e = true≢false (sym h)
  branches_some (choice s (branch r p bs)) h e = some_none r (branches_in p ++ choice_branches bs) e
  branches_some (repeat s q l m g p) h e = branches_some p h e
  branches_some (group s c p) h e = branches_some p h e
  branches_some (anchor s k m) h e = true≢false (sym h)
  branches_some (boundary s n a) h e = true≢false (sym h)
  branches_some (look s b i r) h e = true≢false (sym h)
  branches_some (outside s f) h e = true≢false (sym h)

  items_some : (ps : PatTrees) → items_hold_branch ps ≡ true → items_branches ps ≡ [] → ⊥
  items_some no_items h e = true≢false (sym h)
  items_some (item p ps) h e =
      go (holds_branch p) (λ f. branches_some p f (none_first (branches_in p) (items_branches ps) e)) (λ k. items_some ps k (none_last (branches_in p) (items_branches ps) e)) h
    where
      go : (b : Bool) → (b ≡ true → ⊥) → (items_hold_branch ps ≡ true → ⊥) → (b || items_hold_branch ps) ≡ true → ⊥
      go true f g k = f refl
      go false f g k = g k

-- Where nothing is dropped, what is left holds the same groups that capture.
mutual
  captures_left : (p : PatTree) → branches_in p ≡ [] → holds_capture (remaining (among []) no_span p) ≡ holds_capture p
  captures_left (nothing s) h = refl
  captures_left (class s set) h = refl
  captures_left (seq s ps) h = some_captures ps h
  captures_left (choice s no_branches) h = refl
  captures_left (choice s (branch r p bs)) h = absurd (some_none r (branches_in p ++ choice_branches bs) h)
  captures_left (repeat s q l m g p) h = captures_left p h
  captures_left (group s c p) h = ap (λ b. c || b) (captures_left p h)
  captures_left (anchor s k m) h = refl
  captures_left (boundary s n a) h = refl
  captures_left (look s b i r) h = refl
  captures_left (outside s f) h = refl

  some_captures : (ps : PatTrees) → items_branches ps ≡ [] → some_capture (remaining_items (among []) no_span ps) ≡ some_capture ps
  some_captures no_items h = refl
  some_captures (item p ps) h =
      ap (λ b. b || some_capture (remaining_items (among []) no_span ps)) (captures_left p (none_first (branches_in p) (items_branches ps) h))
      ∙ ap (λ b. holds_capture p || b) (some_captures ps (none_last (branches_in p) (items_branches ps) h))

-- And the same quantifiers are taken out of it.
mutual
  pub merged_left : (p : PatTree) → branches_in p ≡ [] → merged_in (remaining (among []) no_span p) ≡ merged_in p
  merged_left (nothing s) h = refl
  merged_left (class s set) h = refl
  merged_left (seq s ps) h = items_left ps h
  merged_left (choice s no_branches) h = refl
  merged_left (choice s (branch r p bs)) h = absurd (some_none r (branches_in p ++ choice_branches bs) h)
  merged_left (repeat s q l m g p) h = under_left p l m h
  merged_left (group s c p) h = merged_left p h
  merged_left (anchor s k m) h = refl
  merged_left (boundary s n a) h = refl
  merged_left (look s b i r) h = refl
  merged_left (outside s f) h = refl

  items_left : (ps : PatTrees) → items_branches ps ≡ [] → items_merged (remaining_items (among []) no_span ps) ≡ items_merged ps
  items_left no_items h = refl
  items_left (item p ps) h =
      ap (λ xs. xs ++ items_merged (remaining_items (among []) no_span ps)) (merged_left p (none_first (branches_in p) (items_branches ps) h))
      ∙ ap (λ xs. merged_in p ++ xs) (items_left ps (none_last (branches_in p) (items_branches ps) h))

  under_left : (p : PatTree) (least : ℕ) (most : Option ℕ) → branches_in p ≡ [] → merged_at (under least most) (remaining (among []) no_span p) ≡ merged_at (under least most) p
  under_left (nothing s) least most h = refl
  under_left (class s set) least most h = refl
  under_left (seq s ps) least most h = items_left ps h
  under_left (choice s no_branches) least most h = refl
  under_left (choice s (branch r p bs)) least most h = absurd (some_none r (branches_in p ++ choice_branches bs) h)
  under_left (repeat s q l m g p) least most h = under_left p l m h
  under_left (group s c p) least most h = inside_left p c least most h
  under_left (anchor s k m) least most h = refl
  under_left (boundary s n a) least most h = refl
  under_left (look s b i r) least most h = refl
  under_left (outside s f) least most h = refl

  inside_left : (p : PatTree) (c : Bool) (least : ℕ) (most : Option ℕ) → branches_in p ≡ [] → merged_at (inside c least most) (remaining (among []) no_span p) ≡ merged_at (inside c least most) p
  inside_left (nothing s) c least most h = refl
  inside_left (class s set) c least most h = refl
  inside_left (seq s ps) c least most h = items_left ps h
  inside_left (choice s no_branches) c least most h = refl
  inside_left (choice s (branch r p bs)) c least most h = absurd (some_none r (branches_in p ++ choice_branches bs) h)
  inside_left (repeat s q l m g p) c least most h =
      ap (λ xs. if not c && (not (holds_capture (remaining (among []) no_span p)) && is_allowed l m least most) then xs ++ q ∷ [] else xs) (under_left p l m h)
      ∙ ap (λ b. if not c && (not b && is_allowed l m least most) then merged_at (under l m) p ++ q ∷ [] else merged_at (under l m) p) (captures_left p h)
  inside_left (group s d p) c least most h = merged_left p h
  inside_left (anchor s k m) c least most h = refl
  inside_left (boundary s n a) c least most h = refl
  inside_left (look s b i r) c least most h = refl
  inside_left (outside s f) c least most h = refl

none_text : (text : List ℕ) → None ≡ Some text → ⊥
none_text text e = cc

-- A list of no length, which is another.
pub none_found : (more all : List Span) → all ≡ more → (length all == 0) ≡ true → (all ≡ []) × (more ≡ [])
none_found more all e l =
    let none = nil_from_length all (eqb-true (length all) 0 l) in
    (none, sym e ∙ none)

-- Of a plain pattern nothing goes.
pub plain_right : (flags : Flags) (found : Pattern) (codes : List ℕ) (limit : ℕ) → IsPlain (body_of found) → IsRightSuggestion flags found codes limit empty_suggestion
plain_right flags found codes limit h = record {
  right = record {
    guarded = λ e. (refl, refl);
    tried = λ e. subst (λ bs. Tried (IsVerdict (universe_of found) limit) (body_of found) bs [] []) (sym h.branches) none_tried;
    quantifiers = sym (merged_left (body_of found) h.branches ∙ h.quantifiers);
    spelled = refl;
  };
  keeps = λ text e. absurd (none_text text e);
}

-- The same for lists that are empty
-- no lists are the empty suggestion.
pub empty_by : (dropped merged passed : List Span) → dropped ≡ [] → merged ≡ [] → passed ≡ [] → record { text = None; dropped = dropped; merged = merged; passed = passed } ≡ empty_suggestion
empty_by dropped merged passed d m p =
    subst (λ ds. record { text = None; dropped = ds; merged = merged; passed = passed } ≡ empty_suggestion) (sym d)
    (subst (λ ms. record { text = None; dropped = []; merged = ms; passed = passed } ≡ empty_suggestion) (sym m)
    (subst (λ ps. record { text = None; dropped = []; merged = []; passed = ps } ≡ empty_suggestion) (sym p) refl))

pub plain_by : (flags : Flags) (found : Pattern) (codes : List ℕ) (limit : ℕ) (dropped merged passed : List Span) → IsPlain (body_of found) → dropped ≡ [] → merged ≡ [] → passed ≡ []
    → IsRightSuggestion flags found codes limit (record { text = None; dropped = dropped; merged = merged; passed = passed })
plain_by flags found codes limit dropped merged passed h d m p =
    subst (λ ds. IsRightSuggestion flags found codes limit (record { text = None; dropped = ds; merged = merged; passed = passed })) (sym d)
    (subst (λ ms. IsRightSuggestion flags found codes limit (record { text = None; dropped = []; merged = ms; passed = passed })) (sym m)
    (subst (λ ps. IsRightSuggestion flags found codes limit (record { text = None; dropped = []; merged = []; passed = ps })) (sym p) (plain_right flags found codes limit h)))
