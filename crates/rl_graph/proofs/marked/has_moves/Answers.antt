use Rattle.std.proofs.Common.{◌∙◌, sym, refl}
use Rattle.rl_graph.proofs.MarkedLaws.{some-moves}
use Rattle.rl_graph.proofs.marked.has_moves.Goals as goal

pub returns-then-not-is_empty : goal.returns-then-not-is_empty
returns-then-not-is_empty c =
    (λ _. some-moves c.args.g.now c.loop-state.state c.args.letter c.edges.result.now c.edges.ensures.targets (sym c.is_empty.ensures ∙ c.if-not-is_empty.true), λ _. refl)
