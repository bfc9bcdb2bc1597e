use Rattle.rl_ranges.specs.declared.universe.Universe.TheVariants.{Bytes}
use Rattle.std.proofs.Common.{arith}
use Rattle.unit_tests.proofs.equiv.one_of.Goals as goal

pub returns : goal.returns
returns c = c.in_ok-set.ensures.inside Bytes (omega arith)
