use Rattle.std.proofs.Common.{ℕ, List, ap, ◌∙◌}
use Rattle.rl_sets.specs.Rows.{marked}
use Rattle.rl_sets.proofs.RowLemmas.{IsMarkingMoves-more, IsMarkingMoves-all}
use Rattle.rl_sets.proofs.rows.mark_moves.Goals as goal

pub loop-state-preserved : goal.loop-state-preserved
loop-state-preserved c =
    IsMarkingMoves-more c.args.a.now c.args.letter c.args.set.now c.args.row.now c.loop-state.row c.mark.new.row c.loop-state.from c.in-Some.state c.loop-state.invariant c.in-Some.ensures.found (c.mark.ensures.marked ∙ ap (λ (qs : List ℕ). marked c.loop-state.row qs) c.moves.ensures.moves)

pub returns : goal.returns
returns c =
    IsMarkingMoves-all c.args.a.now c.args.letter c.args.set.now c.args.row.now c.loop-state.row c.loop-state.from c.loop-state.invariant c.in_default.ensures.none
