use Rattle.std.proofs.Common.{◌≡◌, suc, ◌+◌, ◌*◌}
use Rattle.rl_pairs.specs.internal.Finding.{found_of, width, next_of, IsFurther}
use Rattle.rl_pairs.proofs.finder.Finder.expand.Given as goal

abbrev pub invariant-loop-letter : goal.invariant-loop-letter
invariant-loop-letter l = record {
  further : IsFurther l.a l.fn.walk l.walk (found_of l.fn.self) (found_of l.self) (l.from * width l.a + suc l.letter);
  row : l.row.items ≡ next_of l.a (found_of l.self) l.from l.letter;
}
