use Rattle.std.proofs.Common.{◌≡◌, None, take}
use Rattle.std.specs.Prelude.{find, bytes_eq}
use Rattle.rl_source.proofs.node_map.found_at.Given as goal

abbrev pub invariant-loop-node : goal.invariant-loop-node
invariant-loop-node l = find (λ n. bytes_eq n.path l.path) (take l.node-index l.nodes) ≡ None
