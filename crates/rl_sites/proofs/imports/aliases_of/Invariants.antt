-- The aliases so far, followed by those of the rest, are all aliases.
use Rattle.std.proofs.Common.{◌≡◌, ◌++◌, length}
use Rattle.rl_sites.specs.Imports.{aliases_of, aliases_from}
use Rattle.rl_sites.proofs.imports.aliases_of.Given as goal

abbrev pub invariant-loop-rest : goal.invariant-loop-rest
invariant-loop-rest l = aliases_of l.source l.tokens ≡ l.aliases.items ++ aliases_from l.source l.begins l.rest

abbrev pub decreases-loop-rest : goal.decreases-loop-rest
decreases-loop-rest l = length l.rest
