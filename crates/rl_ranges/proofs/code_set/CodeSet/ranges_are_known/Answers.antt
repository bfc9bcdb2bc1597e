use Rattle.std.proofs.Common.{subst}
use Rattle.rl_ranges.specs.Codes.{Above}
use Rattle.rl_ranges.proofs.ListedLemmas.{listed-inside}
use Rattle.rl_ranges.proofs.code_set.CodeSet.ranges_are_known.Goals as goal

pub returns-clause-listed : goal.returns-clause-listed
returns-clause-listed c = λ u inside. listed-inside u c.args.self.now (subst (Above 0) c.self.view_is c.self.invariant) inside
