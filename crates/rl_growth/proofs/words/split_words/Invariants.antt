use Rattle.rl_pairs.specs.PairTable.{moves_in}
use Rattle.rl_growth.specs.Routes.{IsWay}
use Rattle.rl_growth.proofs.words.split_words.Given as goal

abbrev pub invariant-loop-place : goal.invariant-loop-place
invariant-loop-place l = IsWay (moves_in l.g) l.splits l.place l.words.heads l.words.pumps
