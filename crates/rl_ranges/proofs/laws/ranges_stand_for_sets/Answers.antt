use Rattle.rl_ranges.proofs.ListedLemmas.{Above-ranges_below, Above-same, has-ranges_below}
use Rattle.rl_ranges.proofs.laws.ranges_stand_for_sets.Goals as goal

pub returns-clause-members : goal.returns-clause-members
returns-clause-members c = has-ranges_below

pub returns-clause-sorted : goal.returns-clause-sorted
returns-clause-sorted c = Above-ranges_below

pub returns-clause-unique : goal.returns-clause-unique
returns-clause-unique c = Above-same 0
