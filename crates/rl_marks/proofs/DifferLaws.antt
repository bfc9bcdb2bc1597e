-- Patterns that find different matches on a text: from the run of both matchers, and against what closed relations show.
use Rattle.std.proofs.Common.{◌≡◌, ℕ, suc, ◌≤◌, Bool, List, length, slice_get, Option, None, Some, sym, ap, subst, ◌∙◌}
use Rattle.rl_ranges.specs.Text.{IsText}
use Rattle.rl_syntax.specs.Guards.{code_before}
use Rattle.rl_marks.specs.declared.asked.How.{How}
use Rattle.rl_marks.specs.declared.asked.How.TheVariants.{Fullmatch, Match, OneSearch}
use Rattle.rl_marks.specs.declared.pattern.MarkedPattern.{MarkedPattern}
use Rattle.rl_marks.specs.Marked.{Marked}
use Rattle.rl_marks.specs.Hits.{match_at, SameHit}
use Rattle.rl_marks.specs.Finds.{Found}
use Rattle.rl_marks.specs.SameFinds.{matcher_in, FindAlike, FindDifferently}
use Rattle.rl_marks.specs.internal.Caps.{no_caps}
use Rattle.rl_marks.specs.internal.Walk.{Ended}
use Rattle.rl_marks.specs.internal.Runs.{LikeEnded}
use Rattle.rl_marks.specs.internal.Threads.{Thread, moved, halted, first_ended, walks}
use Rattle.rl_marks.specs.internal.Seeking.{asked_in, origin_in, IsFrom}
use Rattle.rl_marks.proofs.ThreadLaws.{or_else, or_else-assoc, ended_at, step-code}
use Rattle.rl_marks.proofs.CapsLaws.{group-caps, last-caps}
use Rattle.rl_marks.proofs.PairLaws.{option_kept}
use Rattle.rl_marks.proofs.SeekLaws.{searches-seek}

pub differ-unlike : (how : How) (p q : MarkedPattern) (w : List ℕ) (i : ℕ) → FindDifferently how p q w i → FindAlike how p q → ⊥
differ-unlike Fullmatch p q w i d alike = d.1.differ (alike w d.1.text i d.1.within d.0)
differ-unlike Match p q w i d alike = d.1.differ (alike w d.1.text i d.1.within d.0)
differ-unlike OneSearch p q w i d alike = d.0.differ (alike w d.0.text)

-- Matches of the matchers that are looked at differ only if those of the patterns do.
pub asked-differ : (how : How) (p q : MarkedPattern) (w : List ℕ) → IsText p.universe w → (advance : Bool) (i : ℕ) → i ≤ length w → IsFrom (origin_in how) advance i
    → (SameHit (match_at (asked_in how p.universe (matcher_in how p)) w advance i) (match_at (asked_in how p.universe (matcher_in how q)) w advance i) → ⊥)
    → FindDifferently how p q w i
asked-differ Fullmatch p q w text advance i le from h = (advance, record { text = text; within = le; differ = h })
asked-differ Match p q w text advance i le from h = (advance, record { text = text; within = le; differ = h })
asked-differ OneSearch p q w text advance i le from h = (
  record {
    text = text;
    differ = λ same. h (subst (λ j. SameHit (match_at (asked_in OneSearch p.universe (matcher_in OneSearch p)) w advance j) (match_at (asked_in OneSearch p.universe (matcher_in OneSearch q)) w advance j)) (sym from.0)
        (subst (λ a. SameHit (match_at (asked_in OneSearch p.universe (matcher_in OneSearch p)) w a 0) (match_at (asked_in OneSearch p.universe (matcher_in OneSearch q)) w a 0)) (sym from.1)
        (searches-seek p.universe (matcher_in OneSearch p) (matcher_in OneSearch q) p.judged.numbered q.judged.numbered w text same)));
  },
  from.0,
)

-- A step of a run: what the threads find from a place on, or else what was found before.
pub run-code : (m : Marked) (w : List ℕ) (hit : ℕ → Bool) (i code : ℕ) → slice_get w i ≡ Some code → (threads : List Thread) (found : Option Ended)
    → or_else (first_ended hit (walks m w threads i)) found
    ≡ or_else (first_ended hit (walks m w (moved m (hit i) (code_before w i) code i threads) (suc i))) (or_else (ended_at i (halted m (hit i) (code_before w i) (Some code) i threads)) found)
run-code m w hit i code next threads found =
    ap (λ x. or_else x found) (step-code m w hit i code next threads)
    ∙ or_else-assoc (first_ended hit (walks m w (moved m (hit i) (code_before w i) code i threads) (suc i))) (ended_at i (halted m (hit i) (code_before w i) (Some code) i threads)) found

-- Matches that are the same end their runs alike.
pub same-ends : (x y : Option Found) → SameHit x y → LikeEnded (option_kept x) (option_kept y)
same-ends None None h = tt
same-ends None (Some y) h = absurd h
same-ends (Some x) None h = absurd h
same-ends (Some x) (Some y) h = record {
  same_place = h.same_end;
  same_spans = λ n. group-caps n x.spans no_caps ∙ h.same_groups n ∙ sym (group-caps n y.spans no_caps);
  same_last = last-caps x.spans no_caps ∙ h.same_last ∙ sym (last-caps y.spans no_caps);
}
