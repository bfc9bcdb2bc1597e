-- A move met in the search for parts.
use Rattle.std.proofs.Common.{◌≡◌, ◌≢◌, ℕ, ◌+◌, ◌*◌, ◌<◌, ◌≤◌, ◌⊎◌, inl, inr, false, true≢false, is_some, IfNone, Option, List, [], ◌∷◌, ◌++◌, length, get_or, slice_get, Some, None, sym, ◌∙◌, ap, subst, arith}
use Rattle.std.proofs.lemmas.Bool.{cases_lt}
use Rattle.std.proofs.lemmas.List.{get_or_past, length_push}
use Rattle.rl_graph.specs.declared.parts.SearchPlace.TheVariants.{Unseen, Open}
use Rattle.rl_graph.specs.declared.parts.Frame.{Frame}
use Rattle.rl_graph.specs.internal.Search.{SearchState, place_of, unseen, IsSearch, with_top, opened, first_frame, IsMet, IsKept, IsCut, IsUnseenMove}
use Rattle.rl_graph.proofs.Sums.{Has-last, Has-at, get_or-at}
use Rattle.rl_graph.proofs.SearchLaws.{unseen-open, unseen-set, moved_on, move_on, joined, with_marks, cut-low, open_next}

pub open-in : (next : ℕ → ℕ → List ℕ) (n : ℕ) (s : SearchState) (q k : ℕ) → IsSearch next n s → place_of s q ≡ Open k → q < n
open-in next n s q k h o = by (cases_lt q n)
  where
    by : (q < n) ⊎ (n ≤ q) → q < n
    by (inl i) = i
    by (inr i) = absurd (unseen-open k (sym (get_or_past s.places q Unseen (omega (arith, h.size))) ∙ o))

pub top-in : (next : ℕ → ℕ → List ℕ) (n : ℕ) (t : SearchState) (f : Frame) → IsSearch next n (with_top t f) → f.state < n
top-in next n t f s = open-in next n (with_top t f) f.state f.depth s (s.framed f (Has-last f t.frames))

met-marks : (next : ℕ → ℕ → List ℕ) (n : ℕ) (t : SearchState) (f : Frame) (m p : ℕ) (new : List ℕ) → IsSearch next n (with_top t f) → slice_get (next f.state f.letter) f.number ≡ Some m → place_of t m ≡ Open p → IsCut p t.marks new → IsSearch next n (with_top (with_marks t new) (moved_on f))
met-marks next n t f m p new s here o c =
    move_on next n (with_marks t new) f m (joined next n t f f.letter m p new s (Has-at (next f.state f.letter) f.number m here) o c) here
    (inr (p, o, λ x h i. cut-low next n t f p new s c x h))

pub met : (next : ℕ → ℕ → List ℕ) (n : ℕ) (t u : SearchState) (f : Frame) (m : ℕ) → IsSearch next n (with_top t f) → f.number < length (next f.state f.letter) → m ≡ get_or (next f.state f.letter) f.number 0 → IsMet m t u false → IsSearch next n (with_top u (moved_on f)) × IsKept t u
met next n t u f m s lt e h = by h
  where
    here : slice_get (next f.state f.letter) f.number ≡ Some m
    here = get_or-at (next f.state f.letter) f.number 0 lt ∙ ap Some (sym e)

    by : IsMet m t u false → IsSearch next n (with_top u (moved_on f)) × IsKept t u
    by (inl d) = (
      subst (λ (z : SearchState). IsSearch next n (with_top z (moved_on f))) (sym d.2) (move_on next n t f m s here (inl (d.0, d.1))),
      record { places = ap (λ (z : SearchState). z.places) d.2; frames = ap (λ (z : SearchState). z.frames) d.2 },
    )
    by (inr o) = (
      subst (λ (z : SearchState). IsSearch next n (with_top z (moved_on f))) (sym o.3) (met-marks next n t f m o.0 u.marks s here o.1 o.2),
      record { places = ap (λ (z : SearchState). z.places) o.3; frames = ap (λ (z : SearchState). z.frames) o.3 },
    )

-- A state opened or finished, as the main loop of the search does it

pub none-end : {A : Type 0} (o : Option A) (P : Type 0) → is_some o ≡ false → IfNone o P → P
none-end None P e h = h
none-end (Some x) P e h = absurd (true≢false e)

pub next-opened : (next : ℕ → ℕ → List ℕ) (n : ℕ) (t u : SearchState) (f : Frame) (w : ℕ) → IsSearch next n (with_top t f) → IsUnseenMove next n t f w → u ≡ opened (with_top t f) w → IsSearch next n u
next-opened next n t u f w s m e = subst (IsSearch next n) (sym e) (open_next next n t f f.letter w s m.within m.not_seen m.move)

pub next-work : (next : ℕ → ℕ → List ℕ) (n : ℕ) (t u : SearchState) (f : Frame) (w : ℕ) → IsSearch next n (with_top t f) → IsUnseenMove next n t f w → u ≡ opened (with_top t f) w → 2 * unseen u.places + length u.frames ≡ 2 * unseen t.places + length t.frames
next-work next n t u f w s m e =
    let a = unseen-set t.places w (length t.open_states) (omega (arith, s.size, m.within)) m.not_seen in
    let b = length_push (t.frames ++ f ∷ []) (first_frame w (length t.open_states)) in
    omega (arith, a, b, length_push t.frames f, ap (λ (z : SearchState). unseen z.places) e, ap (λ (z : SearchState). length z.frames) e)
