use Rattle.std.proofs.Common.{◌≤◌, length, take}
use Rattle.rl_graph.specs.Paths.{Has}
use Rattle.rl_numbers.specs.internal.Spreading.{Spreads}
use Rattle.rl_numbers.proofs.reach.spread_on.Given as goal

abbrev pub invariant-loop-number : goal.invariant-loop-number
invariant-loop-number g l = record {
  few : length l.keys.keys ≤ l.limit;
  spreads : Spreads (g.M.NextStates.next l.m) (g.M.NextStates.size l.m) l.limit l.from (λ t. Has t (take l.number (g.M.NextStates.next l.m l.from l.letter))) l.fn.keys.keys l.keys.keys;
}
