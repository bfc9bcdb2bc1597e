use Rattle.std.proofs.Common.{◌≡◌, take}
use Rattle.rl_equiv.specs.internal.Searching.{state_of, pairs_in}
use Rattle.rl_equiv.proofs.searching.PairSearch.relation.Given as goal

abbrev pub invariant-loop-place : goal.invariant-loop-place
invariant-loop-place l = l.relation ≡ take l.place (pairs_in (state_of l.self))
