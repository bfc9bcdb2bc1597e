use Rattle.std.proofs.Common.{◌∙◌, length, ap, get_or, subst, refl, arith, length-append, [], ◌∷◌, ◌-◌}
use Rattle.std.specs.List.{list_any}
use Rattle.rl_graph.specs.Graph.{edges_of}
use Rattle.rl_why.specs.internal.Paths.{flag, AreFlags}
use Rattle.rl_why.proofs.PathSearch.{layers-push}
use Rattle.rl_why.proofs.paths.flags_along.Goals as goal

pub loop-k-preserved : goal.loop-k-preserved
loop-k-preserved c =
    let g = c.args.g.now in
    let more = c.in_ok-push-2.ensures.pushed in
    let last = c.index-as_slice-k.result in
    let flags_are = subst (λ x. AreFlags g.states (λ q. list_any (flag x) (edges_of g q (get_or c.args.word.now (length c.args.word.now - 1 - c.loop-k.k) 0))) c.in_ok-flags.flags) c.as_slice-in-loop-k.ensures c.in_ok-flags.ensures in
    record {
      size = omega (arith, ap length more, length-append c.loop-k.layers (c.in_ok-flags.flags ∷ []), c.loop-k.invariant.size);
      right = layers-push g.states (edges_of g) c.args.to c.args.word.now c.loop-k.k _ c.loop-k.layers _ last c.in_ok-flags.flags c.loop-k-test.true c.loop-k.invariant.size
          c.states-states.ensures.whole.targets c.loop-k.invariant.right refl (c.index-as_slice-k.is ∙ ap (λ l. get_or l c.loop-k.k last) c.as_slice.ensures) flags_are more;
    }
