use Rattle.std.proofs.Common.{ℕ, ◌<◌, get_or}
use Rattle.rl_equiv.specs.declared.pair.SetPair.{SetPair}
use Rattle.rl_equiv.specs.SetPairs.{IsKept}
use Rattle.rl_equiv.specs.internal.Machines.{pairs_of}
use Rattle.rl_equiv.proofs.checking.is_closed_in.Given as goal

abbrev pub invariant-loop-pair : goal.invariant-loop-pair
invariant-loop-pair l = (k : ℕ) (d : SetPair) → k < l.pair-index → IsKept (pairs_of l.a l.b) l.relation (get_or l.relation k d)
