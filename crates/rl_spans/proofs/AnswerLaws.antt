-- A difference that is seen between the matchers that are looked at is one of the patterns.
use Rattle.std.proofs.Common.{◌≡◌, ℕ, ◌≤◌, Bool, List, length, sym, subst}
use Rattle.rl_ranges.specs.Text.{IsText}
use Rattle.rl_marks.specs.declared.asked.How.{How}
use Rattle.rl_marks.specs.declared.asked.How.TheVariants.{Fullmatch, Match, OneSearch}
use Rattle.rl_marks.specs.declared.pattern.MarkedPattern.{MarkedPattern}
use Rattle.rl_marks.specs.Hits.{Matcher, match_at, SameHit}
use Rattle.rl_marks.specs.SameFinds.{matcher_in}
use Rattle.rl_marks.specs.internal.Seeking.{asked_in, origin_in, IsFrom}
use Rattle.rl_marks.proofs.DifferLaws.{asked-differ}
use Rattle.rl_spans.specs.Answers.{DifferOn}

-- Matches of the matchers that are looked at differ only if those of the patterns do.
asked-on : (how : How) (p q : MarkedPattern) (w : List ℕ) → IsText p.universe w → (advance : Bool) (i : ℕ) → i ≤ length w → IsFrom (origin_in how) advance i
    → (SameHit (match_at (asked_in how p.universe (matcher_in how p)) w advance i) (match_at (asked_in how p.universe (matcher_in how q)) w advance i) → ⊥)
    → DifferOn how p q w i advance
asked-on Fullmatch p q w text advance i le from h = record { text = text; within = le; differ = h }
asked-on Match p q w text advance i le from h = record { text = text; within = le; differ = h }
asked-on OneSearch p q w text advance i le from h =
    let d = asked-differ OneSearch p q w text advance i le from h in (d.0, d.1, from.1)

pub seen-differ : (how : How) (p q : MarkedPattern) (s t : Matcher) → s ≡ asked_in how p.universe (matcher_in how p) → t ≡ asked_in how p.universe (matcher_in how q)
    → (w : List ℕ) → IsText p.universe w → (advance : Bool) (i : ℕ) → i ≤ length w → IsFrom (origin_in how) advance i
    → (SameHit (match_at s w advance i) (match_at t w advance i) → ⊥) → DifferOn how p q w i advance
seen-differ how p q s t e f w text advance i le from h =
    asked-on how p q w text advance i le from
    (λ same. h
    (subst (λ x. SameHit (match_at x w advance i) (match_at t w advance i)) (sym e)
    (subst (λ y. SameHit (match_at (asked_in how p.universe (matcher_in how p)) w advance i) (match_at y w advance i)) (sym f) same)))
