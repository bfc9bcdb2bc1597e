use Rattle.rl_graph.specs.internal.InnerMoves.{AreSharedUpTo}
use Rattle.rl_graph.proofs.PartLaws.{AreMet}
use Rattle.rl_graph.proofs.parts.shared_marks.Given as goal

abbrev pub invariant-loop-number : goal.invariant-loop-number
invariant-loop-number l = AreMet l.numbers l.number-index l.met.items × AreSharedUpTo l.numbers l.number-index l.shared.items
