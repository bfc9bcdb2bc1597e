-- The name lies within the text.
use Rattle.std.proofs.Common.{arith}
use Rattle.rl_pylex.proofs.coding.wrong_coding.Goals as goal

pub returns-else-is_accepted-clause-within : goal.returns-else-is_accepted-clause-within
returns-else-is_accepted-clause-within c = omega (arith, c.in-Some.ensures.within)
