use Rattle.std.proofs.Common.{◌<◌, length, arith, sym, ap, ◌∙◌, true≢false}
use Rattle.rl_graph.specs.Graph.{edges_of}
use Rattle.rl_expo.proofs.SearchLaws.{row-in, two_stay-more, one_stays-more}
use Rattle.rl_expo.proofs.stays.stays_twice.Goals as goal
use Rattle.rl_expo.proofs.stays.stays_twice.Goals.{then-of-own+else-met, else-of-own}

pub of-requires : goal.of-requires
of-requires c =
    let g = c.args.g.now in
    let lt : c.loop-place.place < length (edges_of g c.args.state c.args.letter) = omega (arith, ap length c.edges-row.ensures.targets) in
    rw (c.edges-row.ensures.targets, c.requires.size) (row-in g c.args.state c.args.letter c.edges-row.ensures.whole c.loop-place.place 0 lt)

pub loop-place-preserved : goal.loop-place-preserved
loop-place-preserved c =
    let p = c.args.components.now in
    let own = c.of-own.result in
    let row = c.edges-row.result.now in
    let k = c.loop-place.place in
    let i = c.loop-place.invariant in
    elim c.if-of-own.branch [
      | then-of-own+else-met w ↦ (
        (λ e. absurd (true≢false (sym w.met-is ∙ e))),
        two_stay-more p own k row i.1 (λ j lt a b. i.0 w.if-met.false j lt a),
      )
      | else-of-own w ↦ (
        (λ e. one_stays-more p own k row (i.0 (sym w.met-is ∙ e)) (λ b. w.if-of-own.false (c.of.ensures ∙ b))),
        two_stay-more p own k row i.1 (λ j lt a b. w.if-of-own.false (c.of.ensures ∙ b)),
      )
    ]
