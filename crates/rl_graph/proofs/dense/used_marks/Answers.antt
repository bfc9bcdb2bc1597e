use Rattle.std.proofs.Common.{◌≡◌, ℕ, ◌+◌, false, true, replicate, slice_set, sym, subst, rules}
use Rattle.rl_graph.specs.internal.Dense.{AreUsed}
use Rattle.rl_graph.proofs.DenseLaws.{used-none, used-more}
use Rattle.rl_graph.proofs.dense.used_marks.Goals as goal

pub loop-state-init : goal.loop-state-init
loop-state-init c =
    let e : c.in_ok-marks.marks.items ≡ replicate c.args.size false = search rules in
    subst (AreUsed c.args.parts.now c.args.size 0) (sym e) (used-none c.args.parts.now c.args.size)

pub loop-state-preserved : goal.loop-state-preserved
loop-state-preserved c =
    let p = c.args.parts.now in
    let i = c.loop-state.state in
    subst (λ (z : ℕ). AreUsed p c.args.size (i + 1) (slice_set c.loop-state.marks.items z true)) (sym c.of.ensures)
    (used-more p c.args.size i c.loop-state.marks.items (c.requires.below i c.loop-state-test.true) c.loop-state.invariant)
