use Rattle.rl_equiv.specs.internal.Searching.{state_of}
use Rattle.rl_equiv.proofs.SearchLaws.{IsExpanding}
use Rattle.rl_equiv.proofs.searching.PairSearch.expand.Given as goal

abbrev pub invariant-loop-letter : goal.invariant-loop-letter
invariant-loop-letter l = IsExpanding l.a l.b (state_of l.fn.self) (state_of l.self) l.place l.letter
