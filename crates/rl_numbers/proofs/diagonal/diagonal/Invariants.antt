use Rattle.rl_numbers.specs.internal.Diagonal.{IsDiagonalUpTo}
use Rattle.rl_numbers.proofs.diagonal.diagonal.Given as goal

abbrev pub invariant-loop-state : goal.invariant-loop-state
invariant-loop-state l = IsDiagonalUpTo l.states l.state l.pairs.items
