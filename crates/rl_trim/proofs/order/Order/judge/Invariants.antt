use Rattle.rl_trim.specs.Changes.{AreChangesIf}
use Rattle.rl_trim.proofs.KeyOrder.{IsJudging}
use Rattle.rl_trim.proofs.order.Order.judge.Given as goal

abbrev pub invariant-loop-place : goal.invariant-loop-place
invariant-loop-place l = record {
  judging : IsJudging l.branch.automaton.now l.branch.keep.now l.fn.walk l.walk l.self.keys.keys l.self.arrived l.limit l.place;
  changes : AreChangesIf l.branch.automaton.now l.changes;
}
