use Rattle.std.proofs.Common.{◌≤◌, length}
use Rattle.rl_numbers.specs.internal.Spreading.{Spreads, IsTargetUpTo}
use Rattle.rl_numbers.proofs.reach.spread.Given as goal

abbrev pub invariant-loop-letter : goal.invariant-loop-letter
invariant-loop-letter g l = record {
  few : length l.keys.keys ≤ l.limit;
  spreads : Spreads (g.M.NextStates.next l.m) (g.M.NextStates.size l.m) l.limit l.from (IsTargetUpTo (g.M.NextStates.next l.m) l.from l.letter) l.fn.keys.keys l.keys.keys;
}
