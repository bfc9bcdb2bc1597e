use Rattle.rl_equiv.proofs.IndexLaws.{HasFirst}
use Rattle.rl_equiv.proofs.index.Index.of.Given as goal

abbrev pub invariant-loop-pair : goal.invariant-loop-pair
invariant-loop-pair l = HasFirst l.relation l.pair-index l.index
