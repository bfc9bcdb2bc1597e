use Rattle.rl_lint.proofs.FilterLemmas.{MovedUp}
use Rattle.rl_lint.proofs.filter.unknown_entries.Given as goal

-- The entries at the positions so far have been moved up to their places.
abbrev pub invariant-loop-place : goal.invariant-loop-place
invariant-loop-place l = MovedUp l.position-items l.initial.moved.items l.moved.items l.place
