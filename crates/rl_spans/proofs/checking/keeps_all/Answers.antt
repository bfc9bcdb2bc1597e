use Rattle.std.proofs.Common.{true, below_more, subst, ◌∙◌}
use Rattle.std.proofs.lemmas.List.{get_or_default}
use Rattle.rl_spans.specs.internal.Sides.{matcher_of}
use Rattle.rl_spans.specs.internal.Machines.{KeepsCodes}
use Rattle.rl_spans.proofs.checking.keeps_all.Goals as goal

pub loop-index-preserved : goal.loop-index-preserved
loop-index-preserved c =
    below_more _ _ c.loop-index.invariant
    (λ p e.
    subst (λ q. KeepsCodes (matcher_of c.args.machine.now.first) (matcher_of c.args.machine.now.second) c.args.pairs.now c.args.machine.now.codes true q)
    (c.index-pairs-index.is ∙ get_or_default c.args.pairs.now c.loop-index.index c.index-pairs-index.result p c.loop-index-test.true ∙ e)
    (c.in_ok-keeps.ensures c.if-not-branch.false))
