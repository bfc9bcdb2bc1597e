-- Removing one anchor.
use Rattle.std.proofs.Common.{map, reverse, sym, ap, ◌∙◌}
use Rattle.rl_pattern.specs.Found.{begins_leading}
use Rattle.rl_pattern.specs.internal.Views.{node_of}
use Rattle.rl_pattern.proofs.Anchors.{leading_off, leading_kept}
use Rattle.rl_pattern.proofs.inner.take_from_back.Goals as goal

pub loop-items-preserved : goal.loop-items-preserved
loop-items-preserved c =
    leading_off node_of c.loop-items.items.items c.pop.new.self.items c.pop.result
    (sym (c.ends_leading.ensures ∙ ap (λ ps. begins_leading (reverse (map node_of ps))) c.as_slice.ensures.value) ∙ c.loop-items-test.true)
    c.pop.ensures.items
    ∙ c.loop-items.invariant

pub returns : goal.returns
returns c =
    leading_kept (reverse (map node_of c.loop-items.items.items)) (sym (c.ends_leading.ensures ∙ ap (λ ps. begins_leading (reverse (map node_of ps))) c.as_slice.ensures.value) ∙ c.loop-items-test.false)
    ∙ c.loop-items.invariant
