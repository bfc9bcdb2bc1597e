-- What trials and the rule of quantifiers give is a right suggestion.
use Rattle.std.proofs.Common.{◌≡◌, ℕ, zero, suc, ◌<◌, Bool, true, false, if◌then◌else◌, List, [], ◌∷◌, length, All, Option, Some, Result, Ok, refl, sym, ap, ◌∙◌, subst, arith}
use mathlib.Core.Logic.{inl, inr, ⊎_elim}
use Rattle.rl_ranges.specs.Text.{IsText, code_count}
use Rattle.rl_syntax.specs.declared.span.Span.{Span}
use Rattle.rl_syntax.specs.declared.pattern.Pattern.{Pattern}
use Rattle.rl_syntax.specs.Pattern.{body_of, universe_of}
use Rattle.rl_syntax.specs.PatTree.{PatTree}
use Rattle.rl_syntax.specs.Tree.{Tree}
use Rattle.rl_pattern.specs.declared.flags.Flags.{Flags}
use Rattle.rl_pattern.specs.declared.parsing.PatError.{PatError}
use Rattle.rl_pattern.specs.Cut.{remaining}
use Rattle.rl_pattern.specs.Parsed.{IsParsed}
use Rattle.rl_pattern.specs.Placed.{ArePlaced}
use Rattle.rl_pattern.specs.Reread.{IsRemaining, IsReread}
use Rattle.rl_pattern.specs.Suggested.{Verdict, among, no_span, may_go, holds_guard, branches_in, merged_in, text_of, text_if, Tried, none_tried, left_alone, dropped_one, kept_one, undecided_one}
use Rattle.rl_pattern.specs.Thinned.{kept_from}
use Rattle.rl_pattern.proofs.Final.{right_text_found, right_text_reads}
use Rattle.rl_pattern.proofs.ListedSpans.{branches_are_placed, merged_are_placed}
use Rattle.rl_pattern.proofs.Rising.{Fewer, none_fewer, left_out, taken, fewer_placed}
use Rattle.rl_rewrite.specs.RightSuggestion.{MatchesAlike, IsRightSuggestion}
use Rattle.rl_rewrite.specs.Verdicts.{IsVerdict}
use Rattle.rl_rewrite.specs.internal.Trials.{AreTried}
use Rattle.rl_rewrite.proofs.Stays.{texts_stay}

-- What was dropped, and what passed its limit, are some of the branches.
tried_dropped : (Answers : Tree → Tree → Verdict → Type 0) (body : PatTree) {bs dropped passed : List Span} → Tried Answers body bs dropped passed → Fewer dropped bs
tried_dropped Answers body none_tried = none_fewer
tried_dropped Answers body (left_alone h m) = left_out (tried_dropped Answers body h)
tried_dropped Answers body (dropped_one h m a) = taken (tried_dropped Answers body h)
tried_dropped Answers body (kept_one h m a) = left_out (tried_dropped Answers body h)
tried_dropped Answers body (undecided_one h m a) = left_out (tried_dropped Answers body h)

tried_passed : (Answers : Tree → Tree → Verdict → Type 0) (body : PatTree) {bs dropped passed : List Span} → Tried Answers body bs dropped passed → Fewer passed bs
tried_passed Answers body none_tried = none_fewer
tried_passed Answers body (left_alone h m) = left_out (tried_passed Answers body h)
tried_passed Answers body (dropped_one h m a) = left_out (tried_passed Answers body h)
tried_passed Answers body (kept_one h m a) = left_out (tried_passed Answers body h)
tried_passed Answers body (undecided_one h m a) = taken (tried_passed Answers body h)

-- The codes where there is a text.
some_text : (body : PatTree) (dropped merged : List Span) (codes text : List ℕ) → text_if body dropped merged codes ≡ Some text → text ≡ text_of body dropped merged codes
some_text body [] [] codes text e = absurd (cc e)
some_text body [] (m ∷ ms) codes text e = cc e
some_text body (d ∷ ds) ms codes text e = cc e

-- Kept codes are codes of the universe.
kept_all : (kept : ℕ → Bool) (k n : ℕ) (w : List ℕ) → All (λ c. c < n) w → All (λ c. c < n) (kept_from kept k w)
kept_all kept k n [] h = h
kept_all kept k n (c ∷ w) h =
    let own : c < n = h zero c (omega arith) in
    let rest = kept_all kept (suc k) n w (λ i d l. h (suc i) d (omega (arith, l))) in
    go (kept k) own rest
  where
    go : (b : Bool) → c < n → All (λ c. c < n) (kept_from kept (suc k) w) → All (λ c. c < n) (if b then c ∷ kept_from kept (suc k) w else kept_from kept (suc k) w)
    go true x y zero d l = x
    go true x y (suc i) d l = y i d (omega (arith, l))
    go false x y i d l = y i d l

module _ (flags : Flags) (found : Pattern) (codes : List ℕ) (limit : ℕ) (parsed : IsParsed flags (universe_of found) codes (Ok found)) (dropped merged passed : List Span) (text : Option (List ℕ))
    (may : may_go (among []) (body_of found) ≡ true)
    (guarded : holds_guard (body_of found) ≡ true → (dropped ≡ []) × (passed ≡ []))
    (tried : holds_guard (body_of found) ≡ false → AreTried (universe_of found) limit (body_of found) (branches_in (body_of found)) dropped passed)
    (quantifiers : merged ≡ merged_in (remaining (among dropped) no_span (body_of found)))
    (spelled : text ≡ text_if (body_of found) dropped merged codes) where
  goes : may_go (among dropped) (body_of found) ≡ true
  goes = go (holds_guard (body_of found)) refl
    where
      go : (b : Bool) → holds_guard (body_of found) ≡ b → may_go (among dropped) (body_of found) ≡ true
      go true e = ap (λ d. may_go (among d) (body_of found)) (guarded e).0 ∙ may
      go false e = (tried e).goes

  alike : (new : Pattern) → IsRemaining (among dropped) (among merged) found new → MatchesAlike found new
  alike new h = record {
    leading = h.leading;
    trailing = h.trailing;
    universe = h.universe;
    matched_texts = texts_stay flags (universe_of found) codes found dropped parsed goes (λ e. (guarded e).0) (λ e. (tried e).language) new (subst (λ m. IsRemaining (among dropped) (among m) found new) quantifiers h);
  }

  spelling_is : (spelling : List ℕ) → text ≡ Some spelling → spelling ≡ text_of (body_of found) dropped (merged_in (remaining (among dropped) no_span (body_of found))) codes
  spelling_is spelling e =
      some_text (body_of found) dropped merged codes spelling (sym spelled ∙ e) ∙ ap (λ m. text_of (body_of found) dropped m codes) quantifiers

  read_as : (spelling : List ℕ) → text ≡ Some spelling → (new : Pattern) × IsParsed flags (universe_of found) spelling (Ok new) × IsRemaining (among dropped) (among merged) found new
  read_as spelling e =
      let h = right_text_found flags (universe_of found) codes found dropped parsed goes (λ x. (guarded x).0) in
      (h.0, subst (λ w. IsParsed flags (universe_of found) w (Ok h.0)) (sym (spelling_is spelling e)) h.1, subst (λ m. IsRemaining (among dropped) (among m) found h.0) (sym quantifiers) h.2)

  reread : (spelling : List ℕ) → text ≡ Some spelling → (r : Result Pattern PatError) → IsParsed flags (universe_of found) spelling r → IsReread (among dropped) (among merged) found r
  reread spelling e r h =
      subst (λ m. IsReread (among dropped) (among m) found r) (sym quantifiers) (right_text_reads flags (universe_of found) codes found dropped parsed goes (λ x. (guarded x).0) r (subst (λ w. IsParsed flags (universe_of found) w r) (spelling_is spelling e) h))

  pub right_suggestion : IsRightSuggestion flags found codes limit (record { text = text; dropped = dropped; merged = merged; passed = passed })
  right_suggestion = record {
    right = record { guarded = guarded; tried = λ e. (tried e).tried; quantifiers = quantifiers; spelled = spelled };
    keeps = λ spelling e. record {
      pattern = let x = read_as spelling e in (x.0, x.1, x.2, alike x.0 x.2);
      answers = λ r h. ⊎_elim (λ x. inl x) (λ x. inr (x.0, x.1, x.2, alike x.0 x.2)) (reread spelling e r h);
    };
  }

  nothing_placed : ArePlaced (length codes) []
  nothing_placed = (λ k d l. absurd (omega (arith, l)), λ i j d l m. absurd (omega (arith, m)))

  pub dropped_are_placed : ArePlaced (length codes) dropped
  dropped_are_placed = go (holds_guard (body_of found)) refl
    where
      go : (b : Bool) → holds_guard (body_of found) ≡ b → ArePlaced (length codes) dropped
      go true e = subst (ArePlaced (length codes)) (sym (guarded e).0) nothing_placed
      go false e = fewer_placed (length codes) (tried_dropped (IsVerdict (universe_of found) limit) (body_of found) (tried e).tried) (branches_are_placed flags (universe_of found) codes found parsed)

  pub passed_are_placed : ArePlaced (length codes) passed
  passed_are_placed = go (holds_guard (body_of found)) refl
    where
      go : (b : Bool) → holds_guard (body_of found) ≡ b → ArePlaced (length codes) passed
      go true e = subst (ArePlaced (length codes)) (sym (guarded e).1) nothing_placed
      go false e = fewer_placed (length codes) (tried_passed (IsVerdict (universe_of found) limit) (body_of found) (tried e).tried) (branches_are_placed flags (universe_of found) codes found parsed)

  pub merged_placed : ArePlaced (length codes) merged
  merged_placed = subst (ArePlaced (length codes)) (sym quantifiers) (merged_are_placed flags (universe_of found) codes found dropped parsed)

  pub text_is_text : (spelling : List ℕ) → text ≡ Some spelling → IsText (universe_of found) codes → IsText (universe_of found) spelling
  text_is_text spelling e h = subst (IsText (universe_of found)) (sym (some_text (body_of found) dropped merged codes spelling (sym spelled ∙ e))) (kept_all _ 0 (code_count (universe_of found)) codes h)
