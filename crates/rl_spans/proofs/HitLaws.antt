-- What a side's threads try and come to at a place of a text, and the runs of a text.
use Rattle.std.proofs.Common.{◌≡◌, ℕ, ◌<◌, Bool, List, [], ◌∷◌, length, All, Option, None, Some, suc, zero, slice_get, refl, sym, ap, ap₂, subst, ◌∙◌, arith}
use Rattle.rl_syntax.specs.Guards.{code_before}
use Rattle.rl_marks.specs.Marked.{Marked}
use Rattle.rl_marks.specs.declared.threads.MarkItem.{MarkItem}
use Rattle.rl_marks.specs.declared.threads.Thread.{Thread}
use Rattle.rl_marks.specs.declared.threads.Caps.{Caps}
use Rattle.rl_marks.specs.internal.Walk.{Ended}
use Rattle.rl_marks.specs.internal.Threads.{spread, taken, moved, halted, first_ended, walks}
use Rattle.rl_marks.proofs.ThreadLaws.{or_else, ended_at, step-end}
use Rattle.rl_marks.specs.Hits.{match_at, SameHit}
use Rattle.rl_marks.specs.internal.Runs.{LikeEnded}
use Rattle.rl_marks.proofs.PairLaws.{option_kept, match-walks}
use Rattle.rl_marks.proofs.DifferLaws.{run-code, same-ends}
use Rattle.rl_spans.specs.declared.running.Hit.{Hit}
use Rattle.rl_spans.specs.declared.side.Side.{Side}
use Rattle.rl_spans.specs.declared.shown.Shown.{Shown}
use Rattle.rl_spans.specs.internal.Hits.{ended_of, later_of, found_at}
use Rattle.rl_spans.specs.internal.Shown.{IsShown, shown_spread, taken_by}
use Rattle.rl_spans.specs.internal.Sides.{HasItems, tests_at, matcher_of}
use Rattle.rl_spans.proofs.ShownLaws.{spread_are, taken_are}
use Rattle.rl_spans.proofs.BelowLaws.{spread-below}
use Rattle.rl_spans.proofs.TestLaws.{tests-count, tests-are}

pub spread-at : (m : Marked) (rows : List (List MarkItem)) → HasItems m rows → (before next : Shown) → IsShown before → IsShown next
    → (i states : ℕ) → states ≡ length rows → (threads : List Thread) → All (λ (t : Thread). t.state < states) threads
    → shown_spread rows before next i threads ≡ spread m before.code next.code i threads
spread-at m rows h before next p q i states same threads all =
    spread_are m rows h.items before next p q i threads (subst (λ k. All (λ (t : Thread). t.state < k) threads) same all)

pub taken-at : (m : Marked) (b n : Option ℕ) (i code : ℕ) (accepts : Bool) (threads : List Thread)
    → taken_by (tests_at m code) accepts (spread m b n i threads) ≡ taken m accepts code (spread m b n i threads)
taken-at m b n i code accepts threads =
    taken_are m code (tests_at m code) (tests-are m code) accepts (spread m b n i threads)
    (spread-below (length (tests_at m code)) m (omega (arith, tests-count m code)) b n i threads)

or_else-later : (i : ℕ) (o : Option Caps) (x : Option Ended) → or_else (ended_at i o) x ≡ later_of i o x
or_else-later i None x = refl
or_else-later i (Some c) x = refl

-- A step of a run: what is found from the next place on, or else what was found before.
pub run-step : (m : Marked) (w : List ℕ) (hit : ℕ → Bool) (i next code : ℕ) → slice_get w i ≡ Some code → next ≡ suc i → (accepts : Bool) → accepts ≡ hit i
    → (before : Option ℕ) → before ≡ code_before w i → (threads onward : List Thread) → onward ≡ moved m accepts before code i threads
    → (stop : Option Caps) → stop ≡ halted m accepts before (Some code) i threads → (found new : Option Ended) → new ≡ later_of i stop found → (whole : Option Ended)
    → or_else (first_ended hit (walks m w threads i)) found ≡ whole
    → or_else (first_ended hit (walks m w onward next)) new ≡ whole
run-step m w hit i next code at same accepts counts before was threads onward is_onward stop is_stop found new is_new whole h =
    ap₂ (λ n l. or_else (first_ended hit (walks m w l n)) new) same is_onward
    ∙ ap (or_else (first_ended hit (walks m w (moved m accepts before code i threads) (suc i))))
    (is_new ∙ ap (λ o. later_of i o found) is_stop ∙ sym (or_else-later i (halted m accepts before (Some code) i threads) found))
    ∙ ap₂ (λ (a : Bool) (b : Option ℕ). or_else (first_ended hit (walks m w (moved m a b code i threads) (suc i))) (or_else (ended_at i (halted m a b (Some code) i threads)) found)) counts was
    ∙ sym (run-code m w hit i code at threads found)
    ∙ h

pub get-past : (w : List ℕ) (i : ℕ) → i ≡ length w → slice_get w i ≡ None
get-past [] i e = refl
get-past (c ∷ w) zero e = cc
get-past (c ∷ w) (suc i) e = get-past w i (omega arith)

-- The end of a run.
pub run-end : (m : Marked) (w : List ℕ) (hit : ℕ → Bool) (i : ℕ) → slice_get w i ≡ None → (accepts : Bool) → accepts ≡ hit i
    → (before : Option ℕ) → before ≡ code_before w i → (threads : List Thread) (stop : Option Caps) → stop ≡ halted m accepts before None i threads
    → (found new : Option Ended) → new ≡ later_of i stop found → (whole : Option Ended)
    → or_else (first_ended hit (walks m w threads i)) found ≡ whole → new ≡ whole
run-end m w hit i none accepts counts before was threads stop is_stop found new is_new whole h =
    is_new ∙ ap (λ o. later_of i o found) is_stop
    ∙ ap₂ (λ (a : Bool) (b : Option ℕ). later_of i (halted m a b None i threads) found) counts was
    ∙ sym (or_else-later i (halted m (hit i) (code_before w i) None i threads) found)
    ∙ ap (λ x. or_else x found) (sym (step-end m w hit i none threads))
    ∙ h

-- Runs that end differently show that the matches differ.
pub hits-differ : (s t : Side) (w : List ℕ) (advance : Bool) (i : ℕ) (x y : Option Hit) → ended_of x ≡ found_at s w advance i → ended_of y ≡ found_at t w advance i
    → (LikeEnded (ended_of x) (ended_of y) → ⊥) → SameHit (match_at (matcher_of s) w advance i) (match_at (matcher_of t) w advance i) → ⊥
hits-differ s t w advance i x y e f unlike same =
    unlike (subst (λ a. LikeEnded a (ended_of y)) (sym (match-walks (matcher_of s) w advance i) ∙ sym e)
    (subst (λ b. LikeEnded (option_kept (match_at (matcher_of s) w advance i)) b) (sym (match-walks (matcher_of t) w advance i) ∙ sym f)
    (same-ends (match_at (matcher_of s) w advance i) (match_at (matcher_of t) w advance i) same)))
