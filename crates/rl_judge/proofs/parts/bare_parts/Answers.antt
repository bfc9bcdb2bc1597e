use Rattle.std.proofs.Common.{◌∙◌, [], ◌∷◌, ◌++◌, None, map, sym, ap}
use Rattle.std.proofs.lemmas.List.{map_more, take_all}
use Rattle.rl_syntax.specs.declared.span.Span.{Span}
use Rattle.rl_judge.specs.Analysis.{bare_part}
use Rattle.rl_judge.proofs.parts.bare_parts.Goals as goal

pub loop-span-init : goal.loop-span-init
loop-span-init c = c.new-parts.ensures

pub loop-span-preserved : goal.loop-span-preserved
loop-span-preserved c =
    let f = bare_part c.args.literal.now in
    let none : Span = record { from = 0; upto = 0 } in
    let e = c.code_place.ensures in
    c.in_ok-push.ensures.pushed ∙ (λ j. c.loop-span.invariant j ++ (record { byte = e j; text = None }) ∷ []) ∙ sym (map_more f c.args.spans.now c.loop-span.span-index none c.loop-span-test.true)

pub returns : goal.returns
returns c = c.loop-span.invariant ∙ ap (map (bare_part c.args.literal.now)) (take_all c.loop-span.span-index c.args.spans.now c.loop-span-test.false)
