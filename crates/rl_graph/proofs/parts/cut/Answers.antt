use Rattle.std.proofs.Common.{ℕ, List, ◌≡◌, ◌-◌, length, slice_get, Some, sym, ◌∙◌, ap}
use Rattle.rl_graph.proofs.StackLaws.{off-more}
use Rattle.rl_graph.proofs.parts.cut.Goals as goal

pub loop-mark-preserved : goal.loop-mark-preserved
loop-mark-preserved c =
    let last : slice_get c.loop-mark.marks.items (length c.loop-mark.marks.items - 1) ≡ Some c.in-Some.mark =
    sym (c.in-Some.ensures ∙ (c.last.ensures.value ∙ ap (λ (z : List ℕ). slice_get z (length z - 1)) c.deref.ensures.value)) in
    off-more c.args.depth c.in-Some.mark c.args.marks.now.items c.loop-mark.marks.items c.pop.new.self.items c.pop.result c.loop-mark.invariant c.pop.ensures.items last c.if-mark-depth.false
