use Rattle.std.proofs.Common.{◌≡◌, length}
use Rattle.rl_sets.specs.Split.{IsSquare}
use Rattle.rl_sets.proofs.split.add_targets.Given as goal

abbrev pub invariant-loop-q : goal.invariant-loop-q
invariant-loop-q l = record { square : IsSquare l.a.states l.targets; entered : length l.entered ≡ l.a.states }
