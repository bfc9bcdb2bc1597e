use Rattle.rl_trim.specs.internal.Orders.{AreArrived}
use Rattle.rl_trim.proofs.KeyOrder.{IsFollowing}
use Rattle.rl_trim.proofs.order.Order.expand_each.Given as goal

abbrev pub invariant-loop-letter : goal.invariant-loop-letter
invariant-loop-letter l = record {
  following : IsFollowing l.branch.automaton.now l.branch.keep.now l.fn.walk l.walk l.fn.self.keys.keys l.self.keys.keys l.place l.letter;
  arrived : AreArrived l.branch.keep.now l.walk l.self.keys.keys l.self.arrived;
}
