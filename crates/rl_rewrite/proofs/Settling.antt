-- Each branch that was tried is settled.
use Rattle.std.proofs.Common.{◌≡◌, ℕ, Bool, true, false, ◌||◌, List, [], ◌∷◌, All, refl, ap}
use Rattle.std.specs.Prelude.{◌==◌}
use Rattle.std.proofs.lemmas.Bool.{eq-eqb, and_from}
use Rattle.std.proofs.lemmas.List.Elements.{All-nil, All-cons}
use Rattle.rl_ranges.specs.declared.universe.Universe.{Universe}
use Rattle.rl_syntax.specs.declared.span.Span.{Span}
use Rattle.rl_syntax.specs.PatTree.{PatTree}
use Rattle.rl_equiv.proofs.DifferLaws.{differences-tell}
use Rattle.rl_pattern.specs.Suggested.{same_span, among, without, Tried, none_tried, left_alone, dropped_one, kept_one, undecided_one}
use Rattle.rl_rewrite.specs.Settled.{IsSettled, is_dropped, is_passed, is_left_alone, is_needed}
use Rattle.rl_rewrite.specs.Verdicts.{IsVerdict}

first_among : (b : Span) (bs : List Span) → among (b ∷ bs) b ≡ true
first_among b bs = ap (λ x. x || among bs b) (and_from (b.from == b.from) (b.upto == b.upto) (eq-eqb b.from b.from refl) (eq-eqb b.upto b.upto refl))

later_among : (b c : Span) (bs : List Span) → among bs b ≡ true → among (c ∷ bs) b ≡ true
later_among b c bs e = go (same_span c b)
  where
    go : (x : Bool) → (x || among bs b) ≡ true
    go true = refl
    go false = e

module _ (u : Universe) (body : PatTree) where
  more_dropped : (dropped passed : List Span) (c b : Span) → IsSettled u body dropped passed b → IsSettled u body (c ∷ dropped) passed b
  more_dropped dropped passed c b (is_dropped e) = is_dropped (later_among b c dropped e)
  more_dropped dropped passed c b (is_passed e) = is_passed e
  more_dropped dropped passed c b (is_left_alone earlier later e m) = is_left_alone (c ∷ earlier) later (ap (λ l. c ∷ l) e) m
  more_dropped dropped passed c b (is_needed earlier later w e h) = is_needed (c ∷ earlier) later w (ap (λ l. c ∷ l) e) h

  more_passed : (dropped passed : List Span) (c b : Span) → IsSettled u body dropped passed b → IsSettled u body dropped (c ∷ passed) b
  more_passed dropped passed c b (is_dropped e) = is_dropped e
  more_passed dropped passed c b (is_passed e) = is_passed (later_among b c passed e)
  more_passed dropped passed c b (is_left_alone earlier later e m) = is_left_alone earlier later e m
  more_passed dropped passed c b (is_needed earlier later w e h) = is_needed earlier later w e h

  all_more : (P Q : Span → Type 0) (bs : List Span) → ((b : Span) → P b → Q b) → All P bs → All Q bs
  all_more P Q bs f h k d l = f _ (h k d l)

  pub all_settled : (limit : ℕ) {bs dropped passed : List Span} → Tried (IsVerdict u limit) body bs dropped passed → All (IsSettled u body dropped passed) bs
  all_settled limit none_tried = All-nil (IsSettled u body [] [])
  all_settled limit (left_alone {bs = bs} {dropped = dropped} {passed = passed} {b = b} h m) =
      All-cons (IsSettled u body dropped passed) b bs (is_left_alone [] dropped refl m) (all_settled limit h)
  all_settled limit (dropped_one {bs = bs} {dropped = dropped} {passed = passed} {b = b} h m a) =
      All-cons (IsSettled u body (b ∷ dropped) passed) b bs (is_dropped (first_among b dropped))
      (all_more (IsSettled u body dropped passed) (IsSettled u body (b ∷ dropped) passed) bs (more_dropped dropped passed b) (all_settled limit h))
  all_settled limit (kept_one {bs = bs} {dropped = dropped} {passed = passed} {b = b} h m a) =
      let t = differences-tell u (without dropped body) (without (b ∷ dropped) body) limit a in
      All-cons (IsSettled u body dropped passed) b bs (is_needed [] dropped t.0 refl t.1) (all_settled limit h)
  all_settled limit (undecided_one {bs = bs} {dropped = dropped} {passed = passed} {b = b} h m a) =
      All-cons (IsSettled u body dropped (b ∷ passed)) b bs (is_passed (first_among b passed))
      (all_more (IsSettled u body dropped passed) (IsSettled u body dropped (b ∷ passed)) bs (more_passed dropped passed b) (all_settled limit h))
