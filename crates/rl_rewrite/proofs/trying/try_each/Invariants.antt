-- The branches tried so far are the last ones of all, the tree is that of what is left then, and the automaton may be used for it.
use Rattle.std.proofs.Common.{◌≡◌, ◌++◌, List, IfSome}
use Rattle.rl_syntax.specs.declared.span.Span.{Span}
use Rattle.rl_syntax.specs.Pattern.{body_of, universe_of}
use Rattle.rl_syntax.specs.Tree.{tree_of}
use Rattle.rl_pattern.specs.Suggested.{without}
use Rattle.rl_rewrite.specs.internal.Trials.{AreTried, AreBegun}
use Rattle.rl_rewrite.proofs.trying.try_each.Given as goal

abbrev pub invariant-loop-branch : goal.invariant-loop-branch
invariant-loop-branch l = (bs : List Span) × (l.branch-iterator.iter.rest.now ++ bs ≡ l.branches) × AreTried (universe_of l.p) l.limit (body_of l.p) bs l.tries.dropped l.tries.passed × IfSome l.tries.base (λ b. tree_of b.tree ≡ without l.tries.dropped (body_of l.p)) × IfSome l.tries.base (λ b. b.universe ≡ universe_of l.p) × AreBegun (universe_of l.p) (body_of l.p) l.tries.dropped l.trials
