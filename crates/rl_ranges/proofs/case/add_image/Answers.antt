use Rattle.std.proofs.Common.{ap, sym, take, ◌||◌, ◌∙◌}
use Rattle.rl_ranges.proofs.CaseLemmas.{in_image-more, in_image-nil}
use Rattle.rl_ranges.proofs.SetLemmas.{or-false, or_assoc}
use Rattle.rl_ranges.specs.Building.{range_at}
use Rattle.rl_ranges.specs.internal.Images.{in_image, in_range_image, is_among}
use Rattle.rl_ranges.proofs.case.add_image.Goals as goal

pub loop-first-init : goal.loop-first-init
loop-first-init c = λ x. sym (ap (λ b. is_among c.args.codes.now.items x || b) (in_image-nil c.args.pairs.now x) ∙ or-false _)

pub loop-first-preserved : goal.loop-first-preserved
loop-first-preserved c = λ x.
    let pairs = c.args.pairs.now in
    let ranges = c.args.ranges.now in
    let i = c.loop-first.first-index in
    c.in_ok-add_range_image.ensures x
    ∙ ap (λ b. b || in_range_image pairs (range_at ranges i).0 (range_at ranges i).1 x) (c.loop-first.invariant x)
    ∙ sym (ap (λ b. is_among c.args.codes.now.items x || b) (in_image-more pairs ranges i x c.loop-first-test.true) ∙ or_assoc (is_among c.args.codes.now.items x) (in_image pairs (take i ranges) x) (in_range_image pairs (range_at ranges i).0 (range_at ranges i).1 x))
