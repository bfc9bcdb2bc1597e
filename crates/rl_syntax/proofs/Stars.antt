-- Nested stars span what a single star spans. Trees that span the same may replace each other anywhere in a tree.
use Rattle.std.proofs.Common.{◌≡◌, ◌⊎◌, ℕ, zero, suc, ◌-◌, ◌≤◌, Bool, true, false, ◌==◌, List, [], ◌∷◌, ◌++◌, replicate, Option, Some, None, sym, subst, arith}
use Rattle.std.proofs.lemmas.Bool.{eqb-true, eqb-false, cases_Bool}
use mathlib.Core.Logic.{inl, inr, ⊎_elim}
use Rattle.rl_syntax.specs.Tree.{Tree, empty, one, guard, both, either, many}
use Rattle.rl_syntax.specs.Language.{Rounds, stop, again, Spans}
use Rattle.rl_syntax.specs.Lowering.{in_turn, one_of, option_of, options, tail_of, times}
use Rattle.rl_syntax.specs.SameSpans.{SameSpans}
use Rattle.rl_syntax.specs.AllowedPair.{AllowedPair, any_in_any, some_in_any, option_in_any, some_in_some}

rounds_le : {R : ℕ → ℕ → Type 0} {i j : ℕ} → Rounds R i j → i ≤ j
rounds_le stop = omega arith
rounds_le (again l r h) = omega (arith, l, rounds_le h)

-- A span never goes backward.
pub spans_le : (t : Tree) (w : List ℕ) (i j : ℕ) → Spans t w i j → i ≤ j
spans_le empty w i j h = omega (arith, h)
spans_le (one set) w i j h = omega (arith, h.1)
spans_le (guard g) w i j h = omega (arith, h.1)
spans_le (both e f) w i j (k, x, y) = omega (arith, spans_le e w i k x, spans_le f w k j y)
spans_le (either e f) w i j (inl x) = spans_le e w i j x
spans_le (either e f) w i j (inr x) = spans_le f w i j x
spans_le (many e greedy) w i j h = rounds_le h

rounds_join : {R : ℕ → ℕ → Type 0} {i k j : ℕ} → Rounds R i k → Rounds R k j → Rounds R i j
rounds_join stop b = b
rounds_join (again l r h) b = again l r (rounds_join h b)

rounds_map : {R S : ℕ → ℕ → Type 0} → ((i j : ℕ) → R i j → S i j) → {i j : ℕ} → Rounds R i j → Rounds S i j
rounds_map f stop = stop
rounds_map f (again {i = i} {k = k} l r h) = again l (f i k r) (rounds_map f h)

-- The same, after a step that may stay at its position.
step_on : {R : ℕ → ℕ → Type 0} {i k j : ℕ} → i ≤ k → R i k → Rounds R k j → Rounds R i j
step_on {R} {i} {k} {j} l r h = ⊎_elim (λ (z : (i == k) ≡ true). subst (λ m. Rounds R m j) (sym (eqb-true i k z)) h) (λ (z : (i == k) ≡ false). again (omega (arith, l, eqb-false i k z)) r h) (cases_Bool (i == k))

rounds_flat : {R : ℕ → ℕ → Type 0} {i j : ℕ} → Rounds (Rounds R) i j → Rounds R i j
rounds_flat stop = stop
rounds_flat (again l r h) = rounds_join r (rounds_flat h)

module _ {R : ℕ → ℕ → Type 0} (fwd : (i j : ℕ) → R i j → i ≤ j) where
  abbrev Plus : ℕ → ℕ → Type 0
  Plus i j = (k : ℕ) × R i k × Rounds R k j

  plus_flat : {i j : ℕ} → Rounds Plus i j → Rounds R i j
  plus_flat stop = stop
  plus_flat (again {i = i} l (m, r, rs) h) = step_on (fwd i m r) r (rounds_join rs (plus_flat h))

  plus_of : (i j : ℕ) → R i j → Plus i j
  plus_of i j r = (j, r, stop)

abbrev Maybe : (ℕ → ℕ → Type 0) → ℕ → ℕ → Type 0
Maybe R i j = R i j ⊎ (i ≡ j)

maybe_flat : {R : ℕ → ℕ → Type 0} {i j : ℕ} → Rounds (Maybe R) i j → Rounds R i j
maybe_flat stop = stop
maybe_flat (again l (inl r) h) = again l r (maybe_flat h)
maybe_flat (again l (inr e) h) = absurd (omega (arith, l, e))

once_more : {R : ℕ → ℕ → Type 0} (i j : ℕ) → R i j → i ≤ j → Rounds R i j
once_more i j r l = step_on l r stop

-- An option spans what its tree spans, or nothing.
option_to : (greedy : Bool) (t : Tree) (w : List ℕ) (i j : ℕ) → Spans (option_of greedy t) w i j → Maybe (Spans t w) i j
option_to true t w i j h = h
option_to false t w i j (inl e) = inr e
option_to false t w i j (inr h) = inl h

option_from : (greedy : Bool) (t : Tree) (w : List ℕ) (i j : ℕ) → Maybe (Spans t w) i j → Spans (option_of greedy t) w i j
option_from true t w i j h = h
option_from false t w i j (inl h) = inr h
option_from false t w i j (inr e) = inl e

-- The four star equations.
pub stars : (l : ℕ) (m : Option ℕ) (least : ℕ) (most : Option ℕ) (inner outer : Bool) (t : Tree) → AllowedPair l m least most → SameSpans (times least most outer (times l m inner t)) (times least most outer t)
stars l m least most inner outer t any_in_any w i j = (λ h. rounds_flat h, λ h. rounds_map (λ a b r. once_more a b r (spans_le t w a b r)) h)
stars l m least most inner outer t some_in_any w i j = (λ h. plus_flat (spans_le t w) h, λ h. rounds_map (plus_of (spans_le t w)) h)
stars l m least most inner outer t option_in_any w i j = (λ h. maybe_flat (rounds_map (option_to inner t w) h), λ h. rounds_map (λ a b r. option_from inner t w a b (inl r)) h)
stars l m least most inner outer t some_in_some w i j = (λ (k, (n, r, rs), h). (n, r, rounds_join rs (plus_flat (spans_le t w) h)), λ (k, r, rs). (j, (k, r, rs), stop))

-- Congruence.
pub same_refl : (t : Tree) → SameSpans t t
same_refl t w i j = (λ h. h, λ h. h)

pub same_both : (a b e f : Tree) → SameSpans a b → SameSpans e f → SameSpans (both a e) (both b f)
same_both a b e f p q w i j = (λ (k, x, y). (k, (p w i k).0 x, (q w k j).0 y), λ (k, x, y). (k, (p w i k).1 x, (q w k j).1 y))

pub same_either : (a b e f : Tree) → SameSpans a b → SameSpans e f → SameSpans (either a e) (either b f)
same_either a b e f p q w i j = (λ h. ⊎_elim (λ x. inl ((p w i j).0 x)) (λ x. inr ((q w i j).0 x)) h, λ h. ⊎_elim (λ x. inl ((p w i j).1 x)) (λ x. inr ((q w i j).1 x)) h)

pub same_many : (a b : Tree) (g h : Bool) → SameSpans a b → SameSpans (many a g) (many b h)
same_many a b g h p w i j = (λ x. rounds_map (λ m n. (p w m n).0) x, λ x. rounds_map (λ m n. (p w m n).1) x)

pub data AllSame : List Tree → List Tree → Type 0 where
  none_same : AllSame [] []
  more_same : {s t : Tree} {ss ts : List Tree} → SameSpans s t → AllSame ss ts → AllSame (s ∷ ss) (t ∷ ts)

pub same_in_turn : {ss ts : List Tree} → AllSame ss ts → SameSpans (in_turn ss) (in_turn ts)
same_in_turn none_same = same_refl empty
same_in_turn (more_same h none_same) = h
same_in_turn (more_same {s = s} {t = t} h (more_same {s = s2} {t = t2} {ss = ss} {ts = ts} h2 hs)) = same_both s t (in_turn (s2 ∷ ss)) (in_turn (t2 ∷ ts)) h (same_in_turn (more_same h2 hs))

pub same_one_of : {ss ts : List Tree} → AllSame ss ts → SameSpans (one_of ss) (one_of ts)
same_one_of none_same = same_refl empty
same_one_of (more_same h none_same) = h
same_one_of (more_same {s = s} {t = t} h (more_same {s = s2} {t = t2} {ss = ss} {ts = ts} h2 hs)) = same_either s t (one_of (s2 ∷ ss)) (one_of (t2 ∷ ts)) h (same_one_of (more_same h2 hs))

all_append : {xs bs ss ts : List Tree} → AllSame xs bs → AllSame ss ts → AllSame (xs ++ ss) (bs ++ ts)
all_append none_same k = k
all_append (more_same h hs) k = more_same h (all_append hs k)

all_replicate : (n : ℕ) (s t : Tree) → SameSpans s t → AllSame (replicate n s) (replicate n t)
all_replicate zero s t h = none_same
all_replicate (suc n) s t h = more_same h (all_replicate n s t h)

same_option : (g : Bool) (s t : Tree) → SameSpans s t → SameSpans (option_of g s) (option_of g t)
same_option true s t h = same_either s t empty empty h (same_refl empty)
same_option false s t h = same_either empty empty s t (same_refl empty) h

all_options : (g : Bool) (k : ℕ) (s t : Tree) → SameSpans s t → AllSame (options g s k) (options g t k)
all_options g zero s t h = none_same
all_options g (suc k) s t h = more_same (same_option g (in_turn (s ∷ options g s k)) (in_turn (t ∷ options g t k)) (same_in_turn (more_same h (all_options g k s t h)))) none_same

all_tail : (g : Bool) (least : ℕ) (most : Option ℕ) (s t : Tree) → SameSpans s t → AllSame (tail_of g s least most) (tail_of g t least most)
all_tail g least None s t h = more_same (same_many s t g g h) none_same
all_tail g least (Some most) s t h = all_options g (most - least) s t h

pub same_times : (least : ℕ) (most : Option ℕ) (g : Bool) (s t : Tree) → SameSpans s t → SameSpans (times least most g s) (times least most g t)
same_times least most g s t h = same_in_turn (all_append (all_replicate least s t h) (all_tail g least most s t h))
