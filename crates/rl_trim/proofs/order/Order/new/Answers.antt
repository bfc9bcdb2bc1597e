use Rattle.std.proofs.Common.{◌≡◌, []}
use Rattle.rl_trim.proofs.order.Order.new.Goals as goal

pub returns-clause-keys : goal.returns-clause-keys
returns-clause-keys c = let none : c.new-keys.result.keys ≡ [] = c.new-keys.ensures.empty in rw none at c.in-Ok.ensures.keys
