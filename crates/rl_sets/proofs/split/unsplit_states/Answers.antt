use Rattle.std.proofs.Common.{Bool, List, false, not, length, get_or, ap, sym, subst, ◌∙◌, arith}
use Rattle.std.proofs.lemmas.List.{length-set}
use Rattle.rl_sets.specs.Split.{AreSplitAt}
use Rattle.rl_sets.proofs.SplitLemmas.{AreSplit-more}
use Rattle.rl_sets.proofs.split.unsplit_states.Goals as goal

pub loop-q-preserved : goal.loop-q-preserved
loop-q-preserved c =
    let a = c.args.a.now in
    let barred = c.args.barred.now in
    record {
      wide = ap length c.set.ensures ∙ length-set c.loop-q.unsplit c.loop-q.q (not c.in_ok-split.split) ∙ c.loop-q.invariant.wide;
      split = λ k below e.
          AreSplit-more a c.args.targets.now barred c.loop-q.unsplit c.loop-q.q c.in_ok-split.split c.loop-q.invariant.wide (omega (arith, c.states-q-end.ensures.count)) c.loop-q.invariant.split
          (λ t. subst (λ (r : List Bool). AreSplitAt a r barred c.loop-q.q) c.in_ok-row.ensures (c.in_ok-split.ensures t)) k below (ap (λ (r : List Bool). get_or r k false) (sym c.set.ensures) ∙ e);
    }
