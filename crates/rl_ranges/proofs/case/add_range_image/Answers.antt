use Rattle.std.proofs.Common.{ap, arith, length, sym, take, ◌<◌, ◌==◌, ◌||◌, ◌∙◌}
use Rattle.rl_ranges.proofs.CaseLemmas.{in_range_image-after, in_range_image-before, in_range_image-more, is_among-push}
use Rattle.rl_ranges.proofs.SetLemmas.{or-false, or_assoc}
use Rattle.rl_ranges.specs.Building.{range_at}
use Rattle.rl_ranges.specs.internal.Images.{in_range_image, is_among}
use Rattle.rl_ranges.proofs.case.add_range_image.Goals as goal

pub loop-place-init : goal.loop-place-init
loop-place-init c = λ x.
    sym (ap (λ b. is_among c.args.codes.now.items x || b) (in_range_image-before c.args.pairs.now c.args.first c.args.last _ x c.lower_bound-place.ensures) ∙ or-false _)

pub loop-place-preserved : goal.loop-place-preserved
loop-place-preserved c = λ x.
    let pairs = c.args.pairs.now in
    let i = c.loop-place.place in
    let i_in : i < length pairs = omega (arith, c.lower_bound-end.ensures.within) in
    let low = c.lower_bound-place.ensures.after i (omega arith) i_in in
    let high = c.lower_bound-end.ensures.before i (omega arith) in
    ap (λ l. is_among l x) c.in_ok-push.ensures.items ∙ is_among-push c.loop-place.codes.items (range_at pairs i).1 x
    ∙ ap (λ b. b || ((range_at pairs i).1 == x)) (c.loop-place.invariant x)
    ∙ sym (ap (λ b. is_among c.args.codes.now.items x || b) (in_range_image-more pairs c.args.first c.args.last i x i_in low (omega arith)) ∙ or_assoc (is_among c.args.codes.now.items x) (in_range_image (take i pairs) c.args.first c.args.last x) ((range_at pairs i).1 == x))

pub returns : goal.returns
returns c = λ x.
    c.loop-place.invariant x
    ∙ ap (λ b. is_among c.args.codes.now.items x || b) (in_range_image-after c.args.pairs.now c.args.first c.args.last c.lower_bound-end.result c.loop-place.place x c.lower_bound-end.ensures c.loop-place-test.false)
