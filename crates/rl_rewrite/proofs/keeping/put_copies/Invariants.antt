-- The flags were added as often as the loop went round.
use Rattle.std.proofs.Common.{◌≡◌, ◌++◌}
use Rattle.rl_rewrite.specs.internal.Keeping.{repeated}
use Rattle.rl_rewrite.proofs.keeping.put_copies.Given as goal

abbrev pub invariant-loop : goal.invariant-loop
invariant-loop l = l.found.items ≡ l.fn.found.items ++ repeated l.counter l.flags
