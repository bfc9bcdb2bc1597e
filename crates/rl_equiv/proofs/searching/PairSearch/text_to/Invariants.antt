use Rattle.rl_equiv.proofs.TextLaws.{IsBack}
use Rattle.rl_equiv.proofs.searching.PairSearch.text_to.Given as goal

abbrev pub invariant-loop-at : goal.invariant-loop-at
invariant-loop-at l = IsBack l.a l.self.ways.items l.place l.at l.back.items

abbrev pub decreases-loop-at : goal.decreases-loop-at
decreases-loop-at l = l.at
