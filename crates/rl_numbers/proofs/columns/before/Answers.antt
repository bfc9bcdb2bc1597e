use Rattle.std.proofs.Common.{◌∙◌, ℕ, List, min, get_or, ap, arith}
use Rattle.rl_graph.specs.Graph.{edges_of}
use Rattle.rl_graph.specs.Paths.{total}
use Rattle.rl_numbers.proofs.RowLoops.{row-in}
use Rattle.rl_numbers.proofs.ColumnLaws.{each-push, column-before, low-all}
use Rattle.rl_numbers.proofs.columns.before.Goals as goal

pub sum_over-requires-clause-row_in : goal.sum_over-requires-clause-row_in
sum_over-requires-clause-row_in c = row-in c.args.g.now c.loop-state.state c.args.letter _ _ c.states-state-end.ensures.whole c.edges.ensures.targets c.requires.size

pub loop-state-preserved : goal.loop-state-preserved
loop-state-preserved c =
    let f = λ (q : ℕ). min 2 (total (λ m. get_or c.args.column.now m 0) (edges_of c.args.g.now q c.args.letter)) in
    let h = each-push f c.loop-state.sums.items c.push.new.self.items c.loop-state.state c.sum_over.result c.loop-state.invariant.size c.in_ok-push.ensures.items
    (c.sum_over.ensures ∙ ap (λ (r : List ℕ). min 2 (total (λ m. get_or c.args.column.now m 0) r)) c.edges.ensures.targets) c.loop-state.invariant.each in
    record { size = h.0; each = h.1 }

pub returns-clause-longer : goal.returns-clause-longer
returns-clause-longer c =
    column-before c.args.g.now c.args.letter c.loop-state.state c.args.column.now c.loop-state.sums.items c.states-state-end.ensures.whole (omega (arith, c.states-state-end.ensures.number, c.loop-state-test.false))
    (omega (arith, c.states-state-end.ensures.number, c.loop-state.auto.state-end)) c.loop-state.invariant.size c.loop-state.invariant.each

pub returns-clause-low : goal.returns-clause-low
returns-clause-low c =
    low-all (λ q. total (λ m. get_or c.args.column.now m 0) (edges_of c.args.g.now q c.args.letter)) c.loop-state.sums.items c.loop-state.state c.loop-state.invariant.size c.loop-state.invariant.each
