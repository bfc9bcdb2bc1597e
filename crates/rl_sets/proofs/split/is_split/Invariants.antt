use Rattle.std.proofs.Common.{ℕ, ◌<◌, [], get_or}
use Rattle.rl_sets.specs.Split.{IsSplitOn}
use Rattle.rl_sets.proofs.split.is_split.Given as goal

abbrev pub invariant-loop-letter : goal.invariant-loop-letter
invariant-loop-letter l = (k : ℕ) → k < l.letter → IsSplitOn l.a l.targets (get_or l.barred k []) l.state k
