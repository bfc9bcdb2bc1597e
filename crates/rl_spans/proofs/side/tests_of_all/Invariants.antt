use Rattle.std.proofs.Common.{◌≡◌, ℕ, Bool, map, take}
use Rattle.rl_syntax.specs.Tree.{sets_in}
use Rattle.rl_marks.specs.Marked.{marked_of, plain}
use Rattle.rl_spans.proofs.side.tests_of_all.Given as goal

abbrev pub invariant-loop-code : goal.invariant-loop-code
invariant-loop-code l = l.list ≡ map (λ code. map (λ (set : ℕ → Bool). set code) (sets_in (plain (marked_of l.tree)))) (take l.code-index l.codes)
