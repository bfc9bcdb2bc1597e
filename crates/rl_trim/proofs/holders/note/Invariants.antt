use Rattle.std.proofs.Common.{take}
use Rattle.rl_trim.specs.internal.Noting.{IsNoting}
use Rattle.rl_trim.proofs.holders.note.Given as goal

abbrev pub invariant-loop-state : goal.invariant-loop-state
invariant-loop-state l = IsNoting l.fn.table l.table (take l.state-index l.states) l.set
