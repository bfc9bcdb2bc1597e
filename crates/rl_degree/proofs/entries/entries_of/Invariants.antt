use Rattle.rl_degree.specs.internal.Entries.{AreEntriesUpTo}
use Rattle.rl_degree.proofs.entries.entries_of.Given as goal

abbrev pub invariant-loop-state : goal.invariant-loop-state
invariant-loop-state l = AreEntriesUpTo l.g l.state l.entries.items
