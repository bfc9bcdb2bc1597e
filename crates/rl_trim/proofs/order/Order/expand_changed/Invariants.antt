use Rattle.rl_trim.proofs.KeyOrder.{IsExpanding}
use Rattle.rl_trim.proofs.order.Order.expand_changed.Given as goal

abbrev pub invariant-loop-letter : goal.invariant-loop-letter
invariant-loop-letter l = IsExpanding l.branch.automaton.now l.branch.keep.now l.fn.walk l.walk l.fn.self.keys.keys l.self.keys.keys l.self.arrived l.place l.letter
