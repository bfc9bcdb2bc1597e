use Rattle.rl_degree.proofs.RowLaws.{IsWayBack}
use Rattle.rl_degree.proofs.rows.SplitSearch.word_to.Given as goal

abbrev pub invariant-loop-at : goal.invariant-loop-at
invariant-loop-at l = IsWayBack l.self.steps.items l.at l.found.step l.letters.items

abbrev pub decreases-loop-at : goal.decreases-loop-at
decreases-loop-at l = l.at
