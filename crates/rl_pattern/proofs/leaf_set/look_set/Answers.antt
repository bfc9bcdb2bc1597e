use Rattle.std.proofs.Common.{sym, ◌∙◌}
use Rattle.rl_pattern.specs.internal.Views.{node_of}
use Rattle.rl_pattern.proofs.Looks.{beside_lies, listed_beside}
use Rattle.rl_pattern.proofs.leaf_set.look_set.Goals as goal

pub turned-requires : goal.turned-requires
turned-requires c = λ x h. beside_lies c.args.universe (node_of c.args.node.now) x (sym (c.in_ok-set.ensures x) ∙ h)

pub returns : goal.returns
returns c = listed_beside c.args.universe c.args.flip c.in_ok-set.set c.in_ok-set-2.set (node_of c.args.node.now) c.in_ok-set.ensures c.in_ok-set-2.ensures c.ranges_are_known.ensures.sorted
