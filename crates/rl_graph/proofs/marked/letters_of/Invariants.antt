use Rattle.rl_graph.specs.internal.Marked.{AreLettersUpTo}
use Rattle.rl_graph.proofs.marked.letters_of.Given as goal

abbrev pub invariant-loop-letter : goal.invariant-loop-letter
invariant-loop-letter l = AreLettersUpTo l.g l.letter l.letters.items
