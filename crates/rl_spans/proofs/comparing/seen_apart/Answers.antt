use Rattle.std.proofs.Common.{◌<◌, ◌≤◌, ◌^◌, length, refl, subst, arith}
use Rattle.rl_ranges.specs.Text.{IsText}
use Rattle.rl_marks.specs.Hits.{match_at, SameHit}
use Rattle.rl_marks.specs.internal.Seeking.{origin_in, IsFrom}
use Rattle.rl_spans.specs.internal.Sides.{matcher_of}
use Rattle.rl_spans.proofs.AnswerLaws.{seen-differ}
use Rattle.rl_spans.proofs.comparing.seen_apart.Goals as goal

pub returns-in-Ok-true-clause-answer : goal.returns-in-Ok-true-clause-answer
returns-in-Ok-true-clause-answer c =
    let p = c.args.a.now in
    let w = c.args.witness.text in
    let i = c.args.witness.from in
    let advance = c.args.witness.advance in
    let s = matcher_of c.args.machine.now.first in
    let t = matcher_of c.args.machine.now.second in
    let text : IsText p.universe w = subst (IsText p.universe) c.as_slice.ensures (c.if-not-is_text.ensures refl) in
    let from : IsFrom (origin_in c.args.how) advance i = subst (λ o. IsFrom o advance i) c.origin_of.ensures (c.if-not-is_from.ensures refl) in
    let le : i ≤ length w = omega arith in (
      seen-differ c.args.how p c.args.b.now s t c.requires.first c.requires.second w text advance i le from
          (subst (λ v. SameHit (match_at s v advance i) (match_at t v advance i) → ⊥) c.as_slice-2.ensures
          (c.in-Ok-true.ensures.differ c.in-Ok-true.field-0-test)),
      subst (λ v. length v < 2 ^ 32) c.as_slice-2.ensures c.in-Ok-true.ensures.short,
    )
