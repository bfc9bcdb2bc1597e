use Rattle.std.proofs.Common.{take}
use Rattle.rl_source.proofs.Seen.{Seen}
use Rattle.rl_source.proofs.doubles.names_repeat.Given as goal

abbrev pub invariant-loop-child : goal.invariant-loop-child
invariant-loop-child l = Seen (λ c. c.name) (take l.child-index l.children) l.seen
