-- The table for the aliases so far.
use Rattle.std.proofs.Common.{take}
use Rattle.rl_sites.specs.internal.Meanings.{IsMeaningTable}
use Rattle.rl_sites.proofs.names.meanings_of.Given as goal

abbrev pub invariant-loop-alias : goal.invariant-loop-alias
invariant-loop-alias l = IsMeaningTable l.source (take l.alias-index l.aliases) l.meanings.entries
