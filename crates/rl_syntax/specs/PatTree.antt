-- Patterns as trees. Contracts see a pattern as the tree of its parts, as they are written. Each part has its span, the range
-- of its positions in the pattern. In the tree, a class is the test of its characters: a function from codes to `true` or
-- `false`.
use Rattle.std.specs.Prelude.{ℕ, Bool, List, [], ◌∷◌, Option}
use Rattle.rl_ranges.specs.Codes.{has}
use Rattle.rl_syntax.specs.declared.span.Span.{Span}
use Rattle.rl_syntax.specs.declared.anchors.AnchorKind.{AnchorKind}
use Rattle.rl_syntax.specs.declared.feature.Feature.{Feature}
use Rattle.rl_syntax.specs.declared.pat.Pat.{Pat}
use Rattle.rl_syntax.specs.declared.pat.Pat.TheOpen as Open
use Rattle.rl_syntax.specs.declared.pat.Pat.TheFolds.{fold-Pat}

mutual
  -- A pattern or a part of one.
  pub data PatTree : Type 0 where
    -- An empty branch.
    nothing : Span → PatTree
    -- One character of a set.
    class : Span → (ℕ → Bool) → PatTree
    -- A sequence of items.
    seq : Span → PatTrees → PatTree
    -- A choice between branches.
    choice : Span → BranchTrees → PatTree
    -- The body repeated between a minimum and a maximum number of times, or without an upper bound if the maximum is `None`.
    -- The first span is that of the whole part, the second that of the quantifier, and the flag says whether it is greedy.
    repeat : Span → Span → ℕ → Option ℕ → Bool → PatTree → PatTree
    -- A group. The flag says whether it captures.
    group : Span → Bool → PatTree → PatTree
    -- An anchor, and whether MULTILINE is in force.
    anchor : Span → AnchorKind → Bool → PatTree
    -- A word boundary. The flags say whether it is `\B` and whether words are ASCII words.
    boundary : Span → Bool → Bool → PatTree
    -- A lookaround of one character of a set, which is given as the sorted list of its ranges. The flags say whether it looks
    -- behind and whether it is negated.
    look : Span → Bool → Bool → List (ℕ × ℕ) → PatTree
    -- A feature that isn't judged, such as a lookahead of two characters.
    outside : Span → Feature → PatTree

  -- The items of a sequence, in order.
  pub data PatTrees : Type 0 where
    no_items : PatTrees
    item : PatTree → PatTrees → PatTrees

  -- The branches of a choice, in order, each with its span and its body.
  pub data BranchTrees : Type 0 where
    no_branches : BranchTrees
    branch : Span → PatTree → BranchTrees → BranchTrees

-- The sequence of the items in the list.
abbrev pub items_of : List PatTree → PatTrees
items_of [] = no_items
items_of (p ∷ ps) = item p (items_of ps)

-- The branches of a choice, given the list of their spans and bodies, in order.
abbrev pub branches_of : List (Span × PatTree) → BranchTrees
branches_of [] = no_branches
branches_of (b ∷ bs) = branch b.0 b.1 (branches_of bs)

-- The tree of a node of the program's pattern, given the trees of the node's parts. A branch is given as the pair of its span
-- and its body's tree.
abbrev pub layer_of : Open.Pat-F PatTree (Span × PatTree) → PatTree
layer_of (Open.Pat-F.Nothing span) = nothing span
layer_of (Open.Pat-F.Class span set) = class span (has set)
layer_of (Open.Pat-F.Seq span items) = seq span (items_of items)
layer_of (Open.Pat-F.Choice span branches) = choice span (branches_of branches)
layer_of (Open.Pat-F.Repeat span mark least most greedy body) = repeat span mark least most greedy body.value
layer_of (Open.Pat-F.Group span captures body) = group span captures body.value
layer_of (Open.Pat-F.Anchor span kind multiline) = anchor span kind multiline
layer_of (Open.Pat-F.Boundary span negated ascii) = boundary span negated ascii
layer_of (Open.Pat-F.Look span behind negated set) = look span behind negated set
layer_of (Open.Pat-F.Outside span what) = outside span what

-- The span of a branch and the tree of its body, as a pair.
abbrev pub branch_of : Open.Branch-F PatTree (Span × PatTree) → Span × PatTree
branch_of b = (b.span, b.body)

-- The tree that contracts see in place of the program's pattern.
abbrev pub pat_of : Pat → PatTree
pat_of = fold-Pat PatTree (Span × PatTree) layer_of branch_of
