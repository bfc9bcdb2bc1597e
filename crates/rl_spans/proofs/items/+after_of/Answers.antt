use Rattle.std.proofs.Common.{◌+◌, inl, inr, length, refl, ap, ap₂, ◌∙◌, arith}
use Rattle.rl_marks.specs.Marked.{marked_of}
use Rattle.rl_marks.specs.MarkItems.{places, first, after, replaced}
use Rattle.rl_spans.proofs.ShortLaws.{behind-one, behind-other, behind-many, behind-again, behind-mark}
use Rattle.rl_spans.proofs.LongLaws.{carried, handed, behind-part, behind-next, behind-again_into, behind-itself, turn-left, turn-right, turn-into, turn-itself, IsTurn}
use Rattle.rl_spans.proofs.items.+after_of.Goals as goal

pub returns-in_err-items-in-Many-clause-long : goal.returns-in_err-items-in-Many-clause-long
returns-in_err-items-in-Many-clause-long t c =
    carried c.from_residual-in_err-items-in-Many.result c.in_err-items-in-Many.field-0.0 _ _ c.from_residual-in_err-items-in-Many.ensures.1 c.in_err-items-in-Many.ensures.long
    (behind-part (marked_of c.args.tree.now) _ (marked_of c.in-Many.body.value) (marked_of c.deref-in-Many.result.now) c.args.base c.args.place
    (ap marked_of c.in-Many.is) (ap marked_of c.deref-in-Many.ensures) (λ from below. below)
    (behind-many (marked_of c.in-Many.body.value) c.in-Many.field-1 c.args.base))

pub returns-in_err-others-in-Many-clause-long : goal.returns-in_err-others-in-Many-clause-long
returns-in_err-others-in-Many-clause-long t c =
    carried c.from_residual-in_err-others-in-Many.result c.in_err-others-in-Many.field-0.0 _ _ c.from_residual-in_err-others-in-Many.ensures.1 c.in_err-others-in-Many.ensures.long
    (behind-again_into (marked_of c.args.tree.now) _ (marked_of c.in-Many.body.value) c.args.base c.args.place (ap marked_of c.in-Many.is) refl
    (behind-again (marked_of c.in-Many.body.value) c.in-Many.field-1 c.args.base))

pub returns-in_err-items-in-Both-clause-long : goal.returns-in_err-items-in-Both-clause-long
returns-in_err-items-in-Both-clause-long t c =
    let tree = marked_of c.args.tree.now in
    let head = marked_of c.in-Both.head.value in
    let tail = marked_of c.in-Both.tail.value in
    let turn : IsTurn tree head tail = elim c.in-Both.is [ inl h ↦ inl (ap marked_of h) | inr h ↦ inr (ap marked_of h) ] in
    let size = c.places_of-in-Both.ensures ∙ ap (λ x. places (marked_of x)) c.deref-in-Both.ensures in
    carried c.from_residual-in_err-items-in-Both.result c.in_err-items-in-Both.field-0.0 _ _ c.from_residual-in_err-items-in-Both.ensures.1 c.in_err-items-in-Both.ensures.long
    (turn-left tree head (marked_of c.deref-then-place-middle-2.result.now) tail c.args.base c.args.place c.places_of-in-Both.result turn
    (ap marked_of c.deref-then-place-middle-2.ensures) size c.if-place-middle-2.true)

pub returns-in_err-others-in-Both-clause-long : goal.returns-in_err-others-in-Both-clause-long
returns-in_err-others-in-Both-clause-long t c =
    let tree = marked_of c.args.tree.now in
    let head = marked_of c.in-Both.head.value in
    let tail = marked_of c.in-Both.tail.value in
    let turn : IsTurn tree head tail = elim c.in-Both.is [ inl h ↦ inl (ap marked_of h) | inr h ↦ inr (ap marked_of h) ] in
    let size = c.places_of-in-Both.ensures ∙ ap (λ x. places (marked_of x)) c.deref-in-Both.ensures in
    carried c.from_residual-in_err-others-in-Both.result c.in_err-others-in-Both.field-0.0 _ _ c.from_residual-in_err-others-in-Both.ensures.1 c.in_err-others-in-Both.ensures.long
    (turn-into tree head tail (marked_of c.deref-then-place-middle-2-2.result.now) c.args.base c.args.place c.places_of-in-Both.result turn
    (ap marked_of c.deref-then-place-middle-2-2.ensures) size c.if-place-middle-2.true)

pub returns-in_ok-others-in-Both-clause-long : goal.returns-in_ok-others-in-Both-clause-long
returns-in_ok-others-in-Both-clause-long t c =
    let tree = marked_of c.args.tree.now in
    let head = marked_of c.in-Both.head.value in
    let tail = marked_of c.in-Both.tail.value in
    let turn : IsTurn tree head tail = elim c.in-Both.is [ inl h ↦ inl (ap marked_of h) | inr h ↦ inr (ap marked_of h) ] in
    let size = c.places_of-in-Both.ensures ∙ ap (λ x. places (marked_of x)) c.deref-in-Both.ensures in
    handed c.replaced_by-then-place-middle-2.result _ _ c.replaced_by-then-place-middle-2.ensures.long
    (turn-itself tree head tail c.args.base c.args.place c.places_of-in-Both.result c.as_slice-then-place-middle-2.result.now c.as_slice-then-place-middle-2-2.result.now
    turn size c.if-place-middle-2.true
    (c.as_slice-then-place-middle-2.ensures ∙ c.in_ok-items-in-Both.ensures.after
    ∙ ap (λ x. after (marked_of x) c.args.base c.args.place) c.deref-then-place-middle-2.ensures)
    (c.as_slice-then-place-middle-2-2.ensures ∙ c.in_ok-others-in-Both.ensures.first
    ∙ ap (λ x. first (marked_of x) (c.args.base + c.places_of-in-Both.result)) c.deref-then-place-middle-2-2.ensures))

pub returns-else-place-middle-2-clause-long : goal.returns-else-place-middle-2-clause-long
returns-else-place-middle-2-clause-long t c =
    let tree = marked_of c.args.tree.now in
    let head = marked_of c.in-Both.head.value in
    let tail = marked_of c.in-Both.tail.value in
    let turn : IsTurn tree head tail = elim c.in-Both.is [ inl h ↦ inl (ap marked_of h) | inr h ↦ inr (ap marked_of h) ] in
    let size = c.places_of-in-Both.ensures ∙ ap (λ x. places (marked_of x)) c.deref-in-Both.ensures in
    handed c.after_of-else-place-middle-2.result _ _ c.after_of-else-place-middle-2.ensures.long
    (turn-right tree head tail (marked_of c.deref-else-place-middle-2.result.now) c.args.base c.args.place c.places_of-in-Both.result turn
    (ap marked_of c.deref-else-place-middle-2.ensures) size c.if-place-middle-2.false)

pub returns-in_ok-others-in-Many-clause-long : goal.returns-in_ok-others-in-Many-clause-long
returns-in_ok-others-in-Many-clause-long t c =
    handed c.replaced_by.result _ _ c.replaced_by.ensures.long
    (behind-itself (marked_of c.args.tree.now) _ c.args.base c.args.place (length (replaced c.as_slice.result.now c.as_slice-in-Many.result.now)) (ap marked_of c.in-Many.is)
    (ap₂ (λ x y. length (replaced x y))
    (c.as_slice.ensures ∙ c.in_ok-items-in-Many.ensures.after ∙ ap (λ x. after (marked_of x) c.args.base c.args.place) c.deref-in-Many.ensures)
    (c.as_slice-in-Many.ensures ∙ c.in_ok-others-in-Many.ensures.first ∙ ap (λ x. first (marked_of x) c.args.base) c.in-Many.is)))

pub returns-in_ok-close-in-Mark-clause-long : goal.returns-in_ok-close-in-Mark-clause-long
returns-in_ok-close-in-Mark-clause-long t c =
    handed c.replaced_by-in-Mark.result _ _ c.replaced_by-in-Mark.ensures.long
    (behind-itself (marked_of c.args.tree.now) _ c.args.base c.args.place (length (replaced c.as_slice-in-Mark.result.now c.as_slice-in-Mark-2.result.now)) (ap marked_of c.in-Mark.is)
    (ap₂ (λ x y. length (replaced x y))
    (c.as_slice-in-Mark.ensures ∙ c.in_ok-items-in-Mark.ensures.after ∙ ap (λ x. after (marked_of x) c.args.base c.args.place) c.deref-in-Mark.ensures)
    (c.as_slice-in-Mark-2.ensures ∙ c.in_ok-close-in-Mark.ensures)))

pub returns-in_err-items-in-Mark-clause-long : goal.returns-in_err-items-in-Mark-clause-long
returns-in_err-items-in-Mark-clause-long t c =
    carried c.from_residual-in_err-items-in-Mark.result c.in_err-items-in-Mark.field-0.0 _ _ c.from_residual-in_err-items-in-Mark.ensures.1 c.in_err-items-in-Mark.ensures.long
    (behind-part (marked_of c.args.tree.now) _ (marked_of c.in-Mark.body.value) (marked_of c.deref-in-Mark.result.now) c.args.base c.args.place
    (ap marked_of c.in-Mark.is) (ap marked_of c.deref-in-Mark.ensures) (λ from below. below)
    (behind-mark c.in-Mark.number (marked_of c.in-Mark.body.value) c.args.base))

pub returns-then-place-middle-clause-long : goal.returns-then-place-middle-clause-long
returns-then-place-middle-clause-long t c =
    handed c.after_of.result _ _ c.after_of.ensures.long
    (behind-part (marked_of c.args.tree.now) _ (marked_of c.in-Either.left.value) (marked_of c.deref-then-place-middle.result.now) c.args.base c.args.place
    (ap marked_of c.in-Either.is) (ap marked_of c.deref-then-place-middle.ensures)
    (λ from below. omega (arith, c.places_of.ensures ∙ ap (λ x. places (marked_of x)) c.deref.ensures, c.if-place-middle.true))
    (behind-one (marked_of c.in-Either.left.value) (marked_of c.in-Either.right.value) c.args.base))

pub returns-else-place-middle-clause-long : goal.returns-else-place-middle-clause-long
returns-else-place-middle-clause-long t c =
    handed c.after_of-else-place-middle.result _ _ c.after_of-else-place-middle.ensures.long
    (behind-next (marked_of c.args.tree.now) _ (marked_of c.in-Either.left.value) (marked_of c.in-Either.right.value) (marked_of c.deref-else-place-middle.result.now)
    c.args.base c.args.place c.places_of.result
    (ap marked_of c.in-Either.is) (ap marked_of c.deref-else-place-middle.ensures) (c.places_of.ensures ∙ ap (λ x. places (marked_of x)) c.deref.ensures) refl c.if-place-middle.false
    (behind-other (marked_of c.in-Either.left.value) (marked_of c.in-Either.right.value) c.args.base))
