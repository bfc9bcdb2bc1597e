use Rattle.std.proofs.Common.{ap, ◌∙◌, arith}
use Rattle.rl_ranges.specs.Codes.{has}
use Rattle.rl_prio.proofs.GuardLemmas.{refused-put, refused-kept, sees-not, sees-so}
use Rattle.rl_prio.proofs.build.guards.kinds_refused.Goals as goal
use Rattle.rl_prio.proofs.build.guards.kinds_refused.Goals.{then-contains-negated, else-contains-negated}

pub loop-kind-preserved : goal.loop-kind-preserved
loop-kind-preserved c =
    let set = has c.args.set.now in
    let kinds = c.args.kinds.now.samples in
    let found_is = c.contains.ensures ∙ ap set c.sample.ensures in
    elim c.if-contains-negated.branch [
      | then-contains-negated w ↦
          refused-put c.args.negated set kinds c.loop-kind.kind 0 c.loop-kind.refused c.if-contains-negated.refused (omega (arith, c.loop-kind-test.true, c.count-kind-end.ensures))
          (omega (arith, c.loop-kind-test.true, c.count-kind-end.ensures, c.requires)) c.loop-kind.invariant w.refused-is
          (sees-not c.args.negated c.contains.result set _ found_is w.if-contains-negated.true)
      | else-contains-negated w ↦
          w.refused-is
          ∙ refused-kept c.args.negated set kinds c.loop-kind.kind 0 c.loop-kind.refused (omega (arith, c.loop-kind-test.true, c.count-kind-end.ensures)) c.loop-kind.invariant
          (sees-so c.args.negated c.contains.result set _ found_is w.if-contains-negated.false)
    ]
