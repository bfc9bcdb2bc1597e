use Rattle.std.proofs.Common.{take}
use Rattle.rl_source.proofs.Seen.{Seen}
use Rattle.rl_source.proofs.doubles.paths_repeat.Given as goal

abbrev pub invariant-loop-node : goal.invariant-loop-node
invariant-loop-node l = Seen (λ n. n.path) (take l.node-index l.nodes) l.seen
