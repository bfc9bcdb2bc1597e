use Rattle.rl_degree.specs.internal.Pairs.{lists_of, IsPlacedUpTo}
use Rattle.rl_degree.proofs.pairs.placed_pairs.Given as goal

abbrev pub invariant-loop-pair : goal.invariant-loop-pair
invariant-loop-pair l = IsPlacedUpTo l.levels l.parts l.count l.pair (lists_of l.placed)
