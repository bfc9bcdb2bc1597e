-- The syntax tree that a list of codes spells. It still contains what is refused later: features, faults in quantifiers and
-- class members, and duplicate group names. Each node has its span, and the flags in force if they matter. A span consists of
-- two positions, which count codes from 0: that of the first code, and the one after the last code. A branch is one of the
-- alternatives that `|` separates, and a body is what a group or the whole pattern consists of. A front is a flag group at the
-- pattern's front.
use Rattle.std.specs.Prelude.{ℕ, List, [], ◌∷◌}
use Rattle.rl_pattern.specs.declared.flags.Flags.{Flags}
pub use Rattle.rl_syntax.specs.declared.span.Span.{Span}
pub use Rattle.rl_ranges.specs.declared.named.Named.{Named}
pub use Rattle.rl_ranges.specs.declared.named.Named.TheVariants.{Digit as digits, Space as spaces, Word as words}
pub use Rattle.rl_pattern.specs.declared.tree.Count.{Count}
pub use Rattle.rl_pattern.specs.declared.tree.Greed.{Greed}
pub use Rattle.rl_pattern.specs.declared.tree.Greed.TheVariants.{Greedy as greedy, Lazy as lazy, Possessive as possessive}
pub use Rattle.rl_pattern.specs.declared.tree.Escaped.{Escaped}
pub use Rattle.rl_pattern.specs.declared.tree.Escaped.TheVariants.{Code as code, TooLarge as too_large, ByName as by_name, Kind as kind, Reference as reference}
pub use Rattle.rl_pattern.specs.declared.tree.Member.{Member}
pub use Rattle.rl_pattern.specs.declared.tree.Member.TheVariants.{One as one, Range as range}
pub use Rattle.rl_pattern.specs.declared.tree.Leaf.{Leaf}
pub use Rattle.rl_pattern.specs.declared.tree.Leaf.TheVariants.{Any as any, Glyph as glyph, Members as members}
pub use Rattle.rl_pattern.specs.declared.tree.Assertion.{Assertion}
pub use Rattle.rl_pattern.specs.declared.tree.Assertion.TheVariants.{Caret as caret, TextStart as text_start, Dollar as dollar, TextEnd as text_end, Boundary as boundary}
pub use Rattle.rl_pattern.specs.declared.tree.Kind.{Kind}
pub use Rattle.rl_pattern.specs.declared.tree.Kind.TheVariants.{Capturing as capturing, Named as named, Scoped as scoped, Lookaround as lookaround, Atomic as atomic, Conditional as conditional}
pub use Rattle.rl_pattern.specs.declared.tree.Front.{Front}

-- The span from position `i` up to, but not including, `j`.
abbrev pub span : ℕ → ℕ → Span
span i j = record { from = i; upto = j }

mutual
  -- A node of the syntax tree: a leaf (`.`, a character, an escape, a reference or a class), a mark (an anchor or word
  -- boundary), a repeat, a group, an empty body, a sequence of items or a choice between branches. The first span is the
  -- node's.
  pub data SyntaxNode : Type 0 where
    leaf : Span → Flags → Leaf → SyntaxNode
    mark : Span → Flags → Assertion → SyntaxNode
    -- The second span is the quantifier's.
    repeat : Span → Span → Count → Greed → SyntaxNode → SyntaxNode
    group : Span → Kind → SyntaxNode → SyntaxNode
    nothing : Span → SyntaxNode
    seq : Span → Nodes → SyntaxNode
    choice : Span → Branches → SyntaxNode

  -- A sequence of nodes.
  pub data Nodes : Type 0 where
    no_nodes : Nodes
    more_nodes : SyntaxNode → Nodes → Nodes

  -- The branches of a choice, each with its span.
  pub data Branches : Type 0 where
    no_branches : Branches
    more_branches : Span → SyntaxNode → Branches → Branches

-- A branch: its span, which includes ignored white space and comments, and its body.
pub record Branch : Type 0 where
  pub place : Span
  pub body : SyntaxNode

-- The list of nodes as a sequence, in the same order.
abbrev pub nodes : List SyntaxNode → Nodes
nodes [] = no_nodes
nodes (p ∷ ps) = more_nodes p (nodes ps)

-- The list of branches as the branches of a choice, each with its span and its body.
abbrev pub branches : List Branch → Branches
branches [] = no_branches
branches (b ∷ bs) = more_branches b.place b.body (branches bs)

-- The body of a branch with span `s` and these items: an empty body if there are none, the item itself if there is one, and
-- otherwise their sequence.
abbrev pub branch_body : Span → List SyntaxNode → SyntaxNode
branch_body s [] = nothing s
branch_body s (p ∷ []) = p
branch_body s (p ∷ q ∷ ps) = seq s (nodes (p ∷ q ∷ ps))

-- The branch with span `s` and these items.
abbrev pub branch : Span → List SyntaxNode → Branch
branch s ps = record { place = s; body = branch_body s ps }

-- The body with span `s` and these branches: an empty body if there are none, the body of the branch if there is one, and
-- otherwise a choice.
abbrev pub whole_body : Span → List Branch → SyntaxNode
whole_body s [] = nothing s
whole_body s (b ∷ []) = b.body
whole_body s (b ∷ c ∷ bs) = choice s (branches (b ∷ c ∷ bs))

-- A whole pattern: the flag groups at its front, and the span and the body of what follows them.
pub record Whole : Type 0 where
  pub fronts : List Front
  pub place : Span
  pub body : SyntaxNode
