-- The aliases so far, followed by those of the rest, are all aliases.
use Rattle.std.proofs.Common.{◌≡◌, ◌++◌, length}
use Rattle.rl_sites.specs.Imports.{items_from}
use Rattle.rl_sites.proofs.imports.push_items.Given as goal

abbrev pub invariant-loop-rest : goal.invariant-loop-rest
invariant-loop-rest l =
    l.initial.aliases.items ++ items_from l.source l.kind 0 l.items ≡ l.aliases.items ++ items_from l.source l.kind 0 l.rest

abbrev pub decreases-loop-rest : goal.decreases-loop-rest
decreases-loop-rest l = length l.rest
