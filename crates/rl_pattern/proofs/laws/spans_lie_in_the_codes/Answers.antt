use Rattle.rl_pattern.proofs.ListedSpans.{branches_are_placed, merged_are_placed}
use Rattle.rl_pattern.proofs.laws.spans_lie_in_the_codes.Goals as goal

pub returns-clause-branches : goal.returns-clause-branches
returns-clause-branches c = branches_are_placed

pub returns-clause-quantifiers : goal.returns-clause-quantifiers
returns-clause-quantifiers c flags u w found dropped h = merged_are_placed flags u w found dropped h
