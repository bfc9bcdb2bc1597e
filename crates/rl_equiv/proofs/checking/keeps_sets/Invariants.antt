use Rattle.rl_sets.specs.Walk.{set_at}
use Rattle.rl_equiv.proofs.CheckLaws.{AreNext}
use Rattle.rl_equiv.proofs.checking.keeps_sets.Given as goal

abbrev pub invariant-loop-letter : goal.invariant-loop-letter
invariant-loop-letter l =
    AreNext l.a l.b l.index (record { first = set_at l.fn.first 0; second = set_at l.fn.second 0 }) l.first l.second l.letter
