use Rattle.std.proofs.Common.{◌≡◌, ◌++◌}
use Rattle.rl_judge.proofs.checker.append.Given as goal

-- The items so far come after the others.
abbrev pub invariant-loop-entry : goal.invariant-loop-entry
invariant-loop-entry l = l.entries ≡ l.initial.entries ++ l.yielded
