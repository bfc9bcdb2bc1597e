use Rattle.std.proofs.Common.{rules, refl, ap, subst, map, slice_index_or, ◌∙◌}
use Rattle.rl_ranges.specs.Codes.{has}
use Rattle.rl_spans.specs.internal.Sides.{matcher_of}
use Rattle.rl_spans.specs.internal.Machines.{IsMove}
use Rattle.rl_spans.proofs.StepLaws.{move-kept}
use Rattle.rl_spans.proofs.machine.is_move.Goals as goal

pub returns : goal.returns
returns c =
    λ kept.
    subst
    (λ codes. IsMove (matcher_of c.args.machine.now.first) (matcher_of c.args.machine.now.second) c.args.pairs.now c.args.accepts c.args.pair.now (slice_index_or codes c.args.letter 0))
    c.as_slice.ensures
    (move-kept (matcher_of c.args.machine.now.first) (matcher_of c.args.machine.now.second) c.args.pairs.now c.args.accepts c.args.pair.now c.in-Some.next.now
    (slice_index_or c.as_slice.result.now c.args.letter 0) c.as_slice-7.result.now c.args.before.code c.stops_before.result c.stops_before-2.result
    c.in_ok-steps.steps.agree c.in_ok-steps.steps.left c.in_ok-steps.steps.right
    (search rules)
    c.requires.before
    (c.stops_before.ensures.code refl (slice_index_or c.as_slice.result.now c.args.letter 0))
    (c.stops_before-2.ensures.code refl (slice_index_or c.as_slice.result.now c.args.letter 0))
    c.in_ok-steps.ensures.left
    c.in_ok-steps.ensures.right
    c.in_ok-steps.ensures.agree
    (c.is_same_kind.ensures c.if-not-is_same_kind.false (matcher_of c.args.machine.now.first) (matcher_of c.args.machine.now.second)
    (ap (map has) c.as_slice-2.ensures ∙ c.requires.machine.looks))
    (c.is_named_by.ensures.left kept)
    (c.is_named_by.ensures.right kept)
    (c.is_named_by.ensures.agree kept))
