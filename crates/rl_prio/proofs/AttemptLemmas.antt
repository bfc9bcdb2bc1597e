-- Lemmas on lists of attempts whose ends are replaced.
use Rattle.std.proofs.Common.{◌≡◌, ℕ, ◌+◌, ◌<◌, ◌≤◌, inl, inr, true, List, [], ◌∷◌, ◌++◌, length, take, get_or, refl, sym, ap, subst, ◌∙◌, arith}
use Rattle.std.proofs.lemmas.Bool.{cases_lt, false≢true}
use Rattle.std.proofs.lemmas.List.{append-nil, take_more}
use Rattle.std.proofs.lemmas.List.Folds.{length-flat_map-take}
use Rattle.std.proofs.lemmas.Grind.{flat_map-append}
use Rattle.std.specs.List.{flat_map, list_all}
use Rattle.rl_syntax.specs.declared.limits.TheConstants.{MOST_MOVES}
use Rattle.rl_prio.specs.internal.Attempts.{onward, ends_replaced, is_test, AreReplaced, AreShort}
use Rattle.rl_prio.specs.declared.build.attempts.Attempt.{Attempt}
use Rattle.rl_prio.specs.declared.build.attempts.Attempt.TheVariants.{Test, End}

-- One attempt more.
pub onward_more : (l further list new : List Attempt) (i : ℕ) (d : Attempt) → i < length l → list ≡ ends_replaced (take i l) further
    → new ≡ list ++ onward further (get_or l i d) → new ≡ ends_replaced (take (i + 1) l) further
onward_more l further list new i d lt so_far is =
    is ∙ ap (λ x. x ++ onward further (get_or l i d)) so_far
    ∙ ap (λ x. ends_replaced (take i l) further ++ x) (sym (append-nil (onward further (get_or l i d))))
    ∙ sym (flat_map-append (onward further) (take i l) (get_or l i d ∷ []))
    ∙ ap (flat_map (onward further)) (sym (take_more l i d lt))

-- Too many up to one attempt are too many in all.
pub onward_many : (l further list : List Attempt) (i : ℕ) (d : Attempt) → i < length l → list ≡ ends_replaced (take i l) further
    → MOST_MOVES < length list + length (onward further (get_or l i d)) → MOST_MOVES < length (ends_replaced l further)
onward_many l further list i d lt is many =
    omega (arith, ap length is, length-flat_map-take (onward further) l i d lt)

-- Tests stay as they are when ends are replaced.
pub tests_stay : (l further : List Attempt) → list_all is_test l ≡ true → ends_replaced l further ≡ l
tests_stay [] further h = refl
tests_stay (Test gs p ∷ l) further h = ap (λ x. Test gs p ∷ x) (tests_stay l further h)
tests_stay (End gs ∷ l) further h = absurd (false≢true h)

-- A list that stays is replaced by itself.
pub replaced_kept : (further : List Attempt) (place : ℕ) (lists : List (List Attempt)) → ends_replaced (get_or lists place []) further ≡ get_or lists place []
    → AreReplaced further place (place + 1) lists lists
replaced_kept further place lists same = record {
  same_count = refl;
  inside = λ k from to.
      let is : place ≡ k = omega arith in
      subst (λ j. get_or lists j [] ≡ ends_replaced (get_or lists j []) further) is (sym same);
  outside = λ k out. refl;
}

-- The lists up to a place, followed by the list of the place.
pub replaced_more : (further : List Attempt) (from place : ℕ) (old mid new : List (List Attempt)) → AreReplaced further from place old mid
    → AreReplaced further place (place + 1) mid new → from ≤ place → AreReplaced further from (place + 1) old new
replaced_more further from place old mid new h last le = record {
  same_count = last.same_count ∙ h.same_count;
  inside = λ k after before. elim (cases_lt k place) [
    | inl early ↦ last.outside k (inl early) ∙ h.inside k after early
    | inr late ↦ last.inside k late before ∙ ap (λ l. ends_replaced l further) (h.outside k (inr late))
  ];
  outside = λ k out. elim out [
    | inl early ↦ last.outside k (inl (omega arith)) ∙ h.outside k (inl early)
    | inr late ↦ last.outside k (inr late) ∙ h.outside k (inr (omega arith))
  ];
}

-- And these are short.
pub short_more : (further : List Attempt) (from place : ℕ) (mid new : List (List Attempt)) → AreShort from place mid
    → AreReplaced further place (place + 1) mid new → AreShort place (place + 1) new → AreShort from (place + 1) new
short_more further from place mid new h last short k after before = elim (cases_lt k place) [
  | inl early ↦ subst (λ l. length l ≤ MOST_MOVES) (sym (last.outside k (inl early))) (h k after early)
  | inr late ↦ short k late before
]
