use Rattle.std.proofs.Common.{rules}
use Rattle.rl_walk.proofs.Order.{in_order-sorted}
use Rattle.rl_walk.proofs.children.in_order.Goals as goal

pub returns : goal.returns
returns c = in_order-sorted _ _ c.in_ok-sort_by.ensures.permutation c.in_ok-sort_by.ensures.sorted (λ a r f' k. search rules)
