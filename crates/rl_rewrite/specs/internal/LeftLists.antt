-- For the contracts of private functions: what is left of lists of items and of branches without the branches that `drop`
-- selects, inside them too. A branch is identified by its span. No quantifiers are taken out.
use Rattle.std.specs.Prelude.{Bool, List, [], ◌∷◌, if◌then◌else◌}
use Rattle.rl_syntax.specs.declared.span.Span.{Span}
use Rattle.rl_syntax.specs.PatTree.{PatTree}
use Rattle.rl_pattern.specs.Cut.{remaining}
use Rattle.rl_pattern.specs.Suggested.{no_span}

-- What is left of each item, in order.
abbrev pub all_remaining : (Span → Bool) → List PatTree → List PatTree
all_remaining drop [] = []
all_remaining drop (p ∷ ps) = remaining drop no_span p ∷ all_remaining drop ps

-- What is left of each branch that isn't dropped, in order. A branch is its span and its body.
abbrev pub some_remaining : (Span → Bool) → List (Span × PatTree) → List (Span × PatTree)
some_remaining drop [] = []
some_remaining drop (b ∷ bs) = if drop b.0 then some_remaining drop bs else (b.0, remaining drop no_span b.1) ∷ some_remaining drop bs
