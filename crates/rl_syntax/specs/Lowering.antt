-- Lowering: the tree of a pattern. A `PatTree` is a pattern as it is written, and a `Tree` is what it is lowered to. A class
-- becomes its set, sequences and choices nest to the right, a group becomes its body, a repeat becomes copies of its body, and
-- anchors, word boundaries and lookarounds of one character become guards, which are tests of a position. The body of a pattern
-- is what is left when the anchors at its start and end have been removed.
use Rattle.std.specs.Prelude.{ℕ, zero, suc, ◌-◌, Bool, true, false, List, [], ◌∷◌, ◌++◌, Option, None, Some, replicate, if◌then◌else◌}
use Rattle.rl_syntax.specs.declared.anchors.AnchorKind.{AnchorKind}
use Rattle.rl_syntax.specs.declared.anchors.AnchorKind.TheVariants.{Caret, TextStart, Dollar, TextEnd}
use Rattle.rl_syntax.specs.declared.anchors.Guard.{Guard}
use Rattle.rl_syntax.specs.declared.anchors.Guard.TheVariants.{Start, LineStart, LineEnd, TextEnd as AtTextEnd, Word, NotWord, Look}
use Rattle.rl_syntax.specs.Tree.{Tree, empty, one, guard, both, either, many}
use Rattle.rl_syntax.specs.PatTree.{PatTree, PatTrees, BranchTrees, nothing, class, seq, choice, repeat, group, anchor, boundary, look, outside, no_items, item, no_branches, branch}

-- The trees one after another, nested to the right. An empty list gives the empty tree.
abbrev pub in_turn : List Tree → Tree
in_turn [] = empty
in_turn (t ∷ []) = t
in_turn (t ∷ u ∷ us) = both t (in_turn (u ∷ us))

-- A choice between the trees, in which earlier ones are tried first. An empty list gives the empty tree.
abbrev pub one_of : List Tree → Tree
one_of [] = empty
one_of (t ∷ []) = t
one_of (t ∷ u ∷ us) = either t (one_of (u ∷ us))

-- The tree made optional. If the flag is `true` (greedy), matching the tree is tried first, otherwise matching nothing.
abbrev pub option_of : Bool → Tree → Tree
option_of true t = either t empty
option_of false t = either empty t

-- Up to `k` optional copies of the tree, each nested in the one before it, as a list of one tree: `(tt?)?` for 2 copies of
-- `t`. Each is greedy if the flag is `true`, otherwise lazy. The list is empty if `k` is 0.
abbrev pub options : Bool → Tree → ℕ → List Tree
options greedy t zero = []
options greedy t (suc k) = option_of greedy (in_turn (t ∷ options greedy t k)) ∷ []

-- What follows the `least` required copies of a repeat, as a list of at most one tree: a loop if there is no maximum,
-- otherwise `most - least` optional copies, or no tree if `most` isn't greater than `least`. Loop and copies are greedy if the
-- flag is `true`.
abbrev pub tail_of : Bool → Tree → ℕ → Option ℕ → List Tree
tail_of greedy t least None = many t greedy ∷ []
tail_of greedy t least (Some most) = options greedy t (most - least)

-- The tree repeated `least` to `most` times, or `least` times or more if `most` is `None`. It is the empty tree if `most` is 0
-- and `least` too, and `least` copies if `most` is less than `least`.
abbrev pub times : ℕ → Option ℕ → Bool → Tree → Tree
times least most greedy t = in_turn (replicate least t ++ tail_of greedy t least most)

-- The guard of an anchor in a body. The flag is MULTILINE. A `$` without MULTILINE never occurs in a body; it would give the
-- same guard as one with MULTILINE.
abbrev pub guard_of : AnchorKind → Bool → Guard
guard_of Caret multiline = if multiline then LineStart else Start
guard_of TextStart multiline = Start
guard_of Dollar multiline = LineEnd
guard_of TextEnd multiline = AtTextEnd

-- The guard of a word boundary: `\B` if `negated` is true, otherwise `\b`. If `ascii` is true, words are ASCII words,
-- otherwise Unicode words.
abbrev pub boundary_guard : Bool → Bool → Guard
boundary_guard negated ascii = if negated then NotWord ascii else Word ascii

abbrev mutual
  -- The tree of a pattern. A feature that isn't judged never occurs in a body; it would give the empty tree.
  pub lowered : PatTree → Tree
  lowered (nothing span) = empty
  lowered (class span set) = one set
  lowered (seq span ps) = in_turn (items_lowered ps)
  lowered (choice span bs) = one_of (branches_lowered bs)
  lowered (repeat span mark least most greedy p) = times least most greedy (lowered p)
  lowered (group span captures p) = lowered p
  lowered (anchor span kind multiline) = guard (guard_of kind multiline)
  lowered (boundary span negated ascii) = guard (boundary_guard negated ascii)
  lowered (look span behind negated ranges) = guard (Look behind negated ranges)
  lowered (outside span what) = empty

  -- The trees of the items, in order.
  pub items_lowered : PatTrees → List Tree
  items_lowered no_items = []
  items_lowered (item p ps) = lowered p ∷ items_lowered ps

  -- The trees of the branches, in order.
  pub branches_lowered : BranchTrees → List Tree
  branches_lowered no_branches = []
  branches_lowered (branch span p bs) = lowered p ∷ branches_lowered bs
