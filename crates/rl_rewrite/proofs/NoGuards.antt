-- What is left of a pattern without a guard has a tree without one.
use Rattle.std.proofs.Common.{◌≡◌, false, List, [], ◌++◌, refl, ap, ◌∙◌}
use Rattle.rl_syntax.specs.declared.span.Span.{Span}
use Rattle.rl_syntax.specs.PatTree.{PatTree}
use Rattle.rl_syntax.specs.SameSpans.{Unguarded}
use Rattle.rl_syntax.specs.Tree.{Tree, empty, one, guard, both, either, many, guards_in}
use Rattle.rl_pattern.specs.Suggested.{among, no_span, holds_guard, without}
use Rattle.rl_pattern.proofs.Chain.{left_unguarded}

no_guards : (t : Tree) → Unguarded t → guards_in t ≡ []
no_guards empty h = refl
no_guards (one set) h = refl
no_guards (guard g) h = absurd h
no_guards (both e f) h = ap (λ l. l ++ guards_in f) (no_guards e h.0) ∙ no_guards f h.1
no_guards (either e f) h = ap (λ l. l ++ guards_in f) (no_guards e h.0) ∙ no_guards f h.1
no_guards (many e greedy) h = no_guards e h

pub left_no_guards : (dropped : List Span) (body : PatTree) → holds_guard body ≡ false → guards_in (without dropped body) ≡ []
left_no_guards dropped body h = no_guards (without dropped body) (left_unguarded (among dropped) no_span body h)
