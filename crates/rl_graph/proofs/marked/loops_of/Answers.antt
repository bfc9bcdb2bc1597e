use Rattle.std.proofs.Common.{Bool, List, ◌+◌, ◌↔◌, IsTrue, false, get_or, length, sym, subst, ◌∙◌, ap}
use Rattle.std.proofs.lemmas.List.{length_push}
use Rattle.rl_graph.specs.Graph.{edges_of}
use Rattle.rl_graph.specs.internal.Marked.{HasLoop}
use Rattle.rl_graph.proofs.PartLaws.{marks-more}
use Rattle.rl_graph.proofs.marked.loops_of.Goals as goal

pub loop-state-preserved : goal.loop-state-preserved
loop-state-preserved c =
    let next = edges_of c.args.g.now in
    let i = c.loop-state.invariant in
    let e = c.in_ok-push.ensures.items in
    record {
      size = ap length e ∙ (length_push c.loop-state.loops.items c.has_loop.result ∙ ap (λ z. z + 1) i.size);
      same = λ q h. subst (λ (z : List Bool). IsTrue (get_or z q false) ↔ HasLoop next q) (sym e)
          (marks-more (HasLoop next) c.loop-state.loops.items c.loop-state.state c.has_loop.result i.size i.same c.has_loop.ensures q h);
    }
