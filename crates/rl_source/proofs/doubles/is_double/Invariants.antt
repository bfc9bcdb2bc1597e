use Rattle.std.proofs.Common.{◌≡◌, false, take}
use Rattle.std.specs.List.{list_any}
use Rattle.rl_source.specs.Distinct.{names_twice}
use Rattle.rl_source.proofs.doubles.is_double.Given as goal

abbrev pub invariant-loop-node : goal.invariant-loop-node
invariant-loop-node l = list_any (λ n. names_twice n.held) (take l.node-index l.nodes) ≡ false
