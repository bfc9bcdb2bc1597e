use Rattle.std.proofs.Common.{◌≡◌, Bool, List, All, length}
use Rattle.rl_sets.specs.Split.{IsSquare}
use Rattle.rl_sets.proofs.split.SplitMoves.of.Given as goal

abbrev pub invariant-loop-letter : goal.invariant-loop-letter
invariant-loop-letter l = record {
  square : IsSquare l.a.states l.targets;
  letters : length l.barred.items ≡ l.letter;
  wide : All (λ (row : List Bool). length row ≡ l.a.states) l.barred.items;
}
