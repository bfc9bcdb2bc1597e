-- A single item is the body.
use Rattle.std.proofs.Common.{sym, ap, arith}
use Rattle.rl_pattern.specs.Tree as t
use Rattle.rl_pattern.specs.internal.Views.{node_of}
use Rattle.rl_pattern.proofs.Layers.{one_left}
use Rattle.rl_pattern.proofs.base.branch_body.Goals as goal

pub returns-in-Some : goal.returns-in-Some
returns-in-Some c =
    sym (ap (t.branch_body c.args.place) (one_left node_of c.args.items c.into_vec-items.result.items c.pop.new.self.items c.pop.result c.in-Some.body c.into_vec-items.ensures c.pop.ensures.items c.in-Some.is (omega (arith, c.len.ensures))))
