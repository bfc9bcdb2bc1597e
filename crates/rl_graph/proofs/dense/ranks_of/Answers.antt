use Rattle.std.proofs.Common.{◌≡◌, ◌+◌, [], ◌∷◌, ◌++◌, length, get_or, ◌∙◌, ap, arith}
use Rattle.std.proofs.lemmas.List.{length_push}
use Rattle.rl_graph.specs.Paths.{one}
use Rattle.rl_graph.specs.internal.Dense.{rank_in}
use Rattle.rl_graph.proofs.DenseLaws.{rank-more, rank-length, pushed}
use Rattle.rl_graph.proofs.dense.ranks_of.Goals as goal
use Rattle.rl_graph.proofs.dense.ranks_of.Goals.{then-mark, else-mark}

pub overflow_add-rank : goal.overflow_add-rank
overflow_add-rank c = omega (arith, c.loop-mark.invariant.1, rank-length c.args.marks.now c.loop-mark.mark-index, c.loop-mark.invariant.0.size, c.loop-mark.ranks.small)

pub loop-mark-preserved : goal.loop-mark-preserved
loop-mark-preserved c =
    let marks = c.args.marks.now in
    let i = c.loop-mark.mark-index in
    let ranks = c.loop-mark.ranks.items in
    let e : c.push.new.self.items ≡ ranks ++ c.loop-mark.rank ∷ [] = c.in_ok-push.ensures.items in
    let so_far = c.loop-mark.invariant in
    let more = rank-more marks i (omega arith) in (
      record {
        size = ap length e ∙ (length_push ranks c.loop-mark.rank ∙ ap (λ z. z + 1) so_far.0.size);
        rank = λ k lt. ap (λ z. get_or z k 0) e ∙ pushed (rank_in marks) 0 ranks i c.loop-mark.rank so_far.0.size so_far.0.rank so_far.1 k lt;
      },
      elim c.if-mark.branch [
        | then-mark w ↦ omega (arith, more, so_far.1, w.rank-is, ap one w.if-mark.true)
        | else-mark w ↦ omega (arith, more, so_far.1, w.rank-is, ap one w.if-mark.false)
      ],
    )
