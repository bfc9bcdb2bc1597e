use Rattle.std.proofs.Common.{ℕ, List, [], ◌∷◌, ◌++◌, ap, ◌∙◌, arith}
use Rattle.rl_graph.specs.Spans.{rows_in}
use Rattle.rl_graph.proofs.SpanLaws.{at_err, rows-grown, within-grown, rows-pushed, within-pushed}
use Rattle.rl_graph.proofs.row_list.RowList.push_row.Goals as goal

pub invariant_of-self : goal.invariant_of-self
invariant_of-self c =
    within-grown c.self.inside.numbers.items c.append.new.numbers.items c.self.inside.apart.items c.self.inside.spans.items c.self.invariant c.append.ensures.grown

pub returns-in_err-span-clause-unchanged : goal.returns-in_err-span-clause-unchanged
returns-in_err-span-clause-unchanged c =
    at_err c.from_residual.result (rows-grown c.self.inside.numbers.items c.append.new.numbers.items c.self.inside.apart.items c.self.inside.spans.items c.self.invariant c.append.ensures.grown ∙ c.self.view_is)

pub invariant_of-self-in_err-push : goal.invariant_of-self-in_err-push
invariant_of-self-in_err-push c =
    rw c.in_err-push.ensures.items (within-grown c.self.inside.numbers.items c.append.new.numbers.items c.self.inside.apart.items c.self.inside.spans.items c.self.invariant c.append.ensures.grown)

pub returns-in_err-push-clause-unchanged : goal.returns-in_err-push-clause-unchanged
returns-in_err-push-clause-unchanged c =
    at_err c.from_residual-in_err-push.result (ap (rows_in c.append.new.numbers.items c.self.inside.apart.items) c.in_err-push.ensures.items ∙ (rows-grown c.self.inside.numbers.items c.append.new.numbers.items c.self.inside.apart.items c.self.inside.spans.items c.self.invariant c.append.ensures.grown ∙ c.self.view_is))

pub invariant_of-self-2 : goal.invariant_of-self-2
invariant_of-self-2 c =
    rw c.in_ok-push.ensures.items (within-pushed c.self.inside.numbers.items c.append.new.numbers.items c.args.row.now c.self.inside.apart.items c.self.inside.spans.items c.in_ok-span.span c.self.invariant c.append.ensures.grown c.in_ok-span.ensures.row (omega arith))

pub returns-clause-pushed : goal.returns-clause-pushed
returns-clause-pushed c =
    ap (rows_in c.append.new.numbers.items c.self.inside.apart.items) c.in_ok-push.ensures.items ∙ (rows-pushed c.self.inside.numbers.items c.append.new.numbers.items c.args.row.now c.self.inside.apart.items c.self.inside.spans.items c.in_ok-span.span c.self.invariant c.append.ensures.grown c.in_ok-span.ensures.row ∙ ap (λ (rows : List (List ℕ)). rows ++ c.args.row.now ∷ []) c.self.view_is)
