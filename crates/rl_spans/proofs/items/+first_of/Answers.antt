use Rattle.std.proofs.Common.{ap, ◌∙◌}
use Rattle.rl_marks.specs.Marked.{marked_of}
use Rattle.rl_marks.specs.MarkItems.{places, first}
use Rattle.rl_spans.proofs.ShortLaws.{short-left, short-right, short-one, short-other, short-many, short-further, short-mark}
use Rattle.rl_spans.proofs.LongLaws.{carried, handed, of-part, of-next, mark-closed, mark-opened}
use Rattle.rl_spans.proofs.items.+first_of.Goals as goal

pub returns-in_err-items-in-Both-clause-long : goal.returns-in_err-items-in-Both-clause-long
returns-in_err-items-in-Both-clause-long t c =
    carried c.from_residual-in_err-items-in-Both.result c.in_err-items-in-Both.field-0.0 _ _ c.from_residual-in_err-items-in-Both.ensures.1 c.in_err-items-in-Both.ensures.long
    (of-part (marked_of c.args.tree.now) _ (marked_of c.in-Both.head.value) (marked_of c.deref.result.now) c.args.base (ap marked_of c.in-Both.is) (ap marked_of c.deref.ensures)
    (short-left (marked_of c.in-Both.head.value) (marked_of c.in-Both.tail.value) c.args.base))

pub returns-in_err-others-in-Both-clause-long : goal.returns-in_err-others-in-Both-clause-long
returns-in_err-others-in-Both-clause-long t c =
    carried c.from_residual-in_err-others-in-Both.result c.in_err-others-in-Both.field-0.0 _ _ c.from_residual-in_err-others-in-Both.ensures.1 c.in_err-others-in-Both.ensures.long
    (of-next (marked_of c.args.tree.now) _ (marked_of c.in-Both.head.value) (marked_of c.in-Both.tail.value) (marked_of c.deref-in-Both.result.now) c.args.base c.places_of.result
    (ap marked_of c.in-Both.is) (ap marked_of c.deref-in-Both.ensures) (c.places_of.ensures ∙ ap (λ x. places (marked_of x)) c.deref-in-Both-2.ensures)
    (short-right (marked_of c.in-Both.head.value) (marked_of c.in-Both.tail.value) c.args.base))

pub returns-in_err-items-in-Either-clause-long : goal.returns-in_err-items-in-Either-clause-long
returns-in_err-items-in-Either-clause-long t c =
    carried c.from_residual-in_err-items-in-Either.result c.in_err-items-in-Either.field-0.0 _ _ c.from_residual-in_err-items-in-Either.ensures.1 c.in_err-items-in-Either.ensures.long
    (of-part (marked_of c.args.tree.now) _ (marked_of c.in-Either.left.value) (marked_of c.deref-in-Either.result.now) c.args.base (ap marked_of c.in-Either.is) (ap marked_of c.deref-in-Either.ensures)
    (short-one (marked_of c.in-Either.left.value) (marked_of c.in-Either.right.value) c.args.base))

pub returns-in_err-others-in-Either-clause-long : goal.returns-in_err-others-in-Either-clause-long
returns-in_err-others-in-Either-clause-long t c =
    carried c.from_residual-in_err-others-in-Either.result c.in_err-others-in-Either.field-0.0 _ _ c.from_residual-in_err-others-in-Either.ensures.1 c.in_err-others-in-Either.ensures.long
    (of-next (marked_of c.args.tree.now) _ (marked_of c.in-Either.left.value) (marked_of c.in-Either.right.value) (marked_of c.deref-in-Either-2.result.now) c.args.base c.places_of-in-Either.result
    (ap marked_of c.in-Either.is) (ap marked_of c.deref-in-Either-2.ensures) (c.places_of-in-Either.ensures ∙ ap (λ x. places (marked_of x)) c.deref-in-Either-3.ensures)
    (short-other (marked_of c.in-Either.left.value) (marked_of c.in-Either.right.value) c.args.base))

pub returns-in_err-items-in-Many-clause-long : goal.returns-in_err-items-in-Many-clause-long
returns-in_err-items-in-Many-clause-long t c =
    carried c.from_residual-in_err-items-in-Many.result c.in_err-items-in-Many.field-0.0 _ _ c.from_residual-in_err-items-in-Many.ensures.1 c.in_err-items-in-Many.ensures.long
    (of-part (marked_of c.args.tree.now) _ (marked_of c.in-Many.body.value) (marked_of c.deref-in-Many.result.now) c.args.base (ap marked_of c.in-Many.is) (ap marked_of c.deref-in-Many.ensures)
    (short-many (marked_of c.in-Many.body.value) c.in-Many.greedy c.args.base))

pub returns-in-Further-clause-long : goal.returns-in-Further-clause-long
returns-in-Further-clause-long t c =
    handed c.first_of-in-Further.result _ _ c.first_of-in-Further.ensures.long
    (of-part (marked_of c.args.tree.now) _ (marked_of c.in-Further.head.value) (marked_of c.deref-in-Further.result.now) c.args.base (ap marked_of c.in-Further.is) (ap marked_of c.deref-in-Further.ensures)
    (short-further (marked_of c.in-Further.head.value) (marked_of c.in-Further.field-1.value) c.args.base))

pub returns-in_err-items-in-Mark-clause-long : goal.returns-in_err-items-in-Mark-clause-long
returns-in_err-items-in-Mark-clause-long t c =
    carried c.from_residual-in_err-items-in-Mark.result c.in_err-items-in-Mark.field-0.0 _ _ c.from_residual-in_err-items-in-Mark.ensures.1 c.in_err-items-in-Mark.ensures.long
    (of-part (marked_of c.args.tree.now) _ (marked_of c.in-Mark.body.value) (marked_of c.deref-in-Mark.result.now) c.args.base (ap marked_of c.in-Mark.is) (ap marked_of c.deref-in-Mark.ensures)
    (short-mark c.in-Mark.number (marked_of c.in-Mark.body.value) c.args.base))

pub returns-in_err-closed-in-Mark-clause-long : goal.returns-in_err-closed-in-Mark-clause-long
returns-in_err-closed-in-Mark-clause-long t c =
    carried c.from_residual-in_err-closed-in-Mark.result c.in_err-closed-in-Mark.field-0.0 _ _ c.from_residual-in_err-closed-in-Mark.ensures.1 c.in_err-closed-in-Mark.ensures.long
    (mark-closed c.in-Mark.number (marked_of c.args.tree.now) (marked_of c.in-Mark.body.value) c.args.base c.as_slice-in-Mark.result.now c.as_slice-in-Mark-2.result.now
    (ap marked_of c.in-Mark.is)
    (c.as_slice-in-Mark.ensures ∙ c.in_ok-items-in-Mark.ensures.first ∙ ap (λ x. first (marked_of x) c.args.base) c.deref-in-Mark.ensures)
    (c.as_slice-in-Mark-2.ensures ∙ c.in_ok-close-in-Mark.ensures))

pub returns-in_err-add_prefixed-in-Mark-clause-long : goal.returns-in_err-add_prefixed-in-Mark-clause-long
returns-in_err-add_prefixed-in-Mark-clause-long t c =
    carried c.from_residual-in_err-add_prefixed-in-Mark.result c.in_err-add_prefixed-in-Mark.field-0.0 _ _
    c.from_residual-in_err-add_prefixed-in-Mark.ensures.1 c.in_err-add_prefixed-in-Mark.ensures.long
    (mark-opened c.in-Mark.number (marked_of c.args.tree.now) (marked_of c.in-Mark.body.value) c.args.base c.as_slice-in-Mark.result.now c.as_slice-in-Mark-2.result.now
    c.new-list.result c.as_slice-in-Mark-3.result.now
    (ap marked_of c.in-Mark.is)
    (c.as_slice-in-Mark.ensures ∙ c.in_ok-items-in-Mark.ensures.first ∙ ap (λ x. first (marked_of x) c.args.base) c.deref-in-Mark.ensures)
    (c.as_slice-in-Mark-2.ensures ∙ c.in_ok-close-in-Mark.ensures)
    c.new-list.ensures
    (c.as_slice-in-Mark-3.ensures ∙ c.in_ok-closed-in-Mark.ensures.replaced))
