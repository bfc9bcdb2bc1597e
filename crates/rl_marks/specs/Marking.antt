-- The tree with groups of a pattern. Each capturing group is marked with its number. Groups are numbered from 1, in the order
-- of their opening parentheses, and all copies of a repeated body have the same numbers. Apart from the groups, the tree is
-- the one that the lowering of `rl_syntax` gives, which turns the body of a pattern into a tree of operators. A part of a
-- pattern is a node of its body with everything in it.
use Rattle.std.specs.Prelude.{ℕ, zero, suc, ◌+◌, ◌-◌, Bool, true, false, List, [], ◌∷◌, ◌++◌, Option, None, Some, replicate}
use Rattle.rl_syntax.specs.declared.anchors.Guard.TheVariants.{Start, Look}
use Rattle.rl_syntax.specs.declared.pattern.Pattern.{Pattern}
use Rattle.rl_syntax.specs.Pattern.{body_of, is_anchored}
use Rattle.rl_syntax.specs.PatTree.{PatTree, PatTrees, BranchTrees, nothing, class, seq, choice, repeat, group, anchor, boundary, look, outside, no_items, item, no_branches, branch}
use Rattle.rl_syntax.specs.Lowering.{guard_of, boundary_guard}
use Rattle.rl_marks.specs.Marked.{Marked, empty, one, guard, both, either, many, further, mark}

-- The trees one after another, nested to the right. An empty list gives the empty tree.
abbrev pub in_turn : List Marked → Marked
in_turn [] = empty
in_turn (t ∷ []) = t
in_turn (t ∷ u ∷ us) = both t (in_turn (u ∷ us))

-- A choice between the trees, in which earlier ones are tried first. An empty list gives the empty tree.
abbrev pub one_of : List Marked → Marked
one_of [] = empty
one_of (t ∷ []) = t
one_of (t ∷ u ∷ us) = either t (one_of (u ∷ us))

-- The optional tree. If the flag is `true` (greedy), the tree is tried before nothing, otherwise after it.
abbrev pub option_of : Bool → Marked → Marked
option_of true t = either t empty
option_of false t = either empty t

-- The round `t`, and then the trees of the list in turn if the round took a code. An empty list gives only `t`.
abbrev pub in_rounds : Marked → List Marked → Marked
in_rounds t [] = t
in_rounds t (u ∷ us) = further t (in_turn (u ∷ us))

-- Up to `k` optional rounds of the tree, as a list of at most one tree. Each round contains those after it, which are tried
-- only if it took a code. The list is empty if `k` is 0.
abbrev pub options : Bool → Marked → ℕ → List Marked
options greedy t zero = []
options greedy t (suc k) = option_of greedy (in_rounds t (options greedy t k)) ∷ []

-- What follows the required copies of a repeat, as a list of at most one tree: a loop if there is no maximum, otherwise
-- `most - least` optional rounds.
abbrev pub tail_of : Bool → Marked → ℕ → Option ℕ → List Marked
tail_of greedy t least None = many t greedy ∷ []
tail_of greedy t least (Some most) = options greedy t (most - least)

-- The tree repeated `least` to `most` times. If `most` is `None`, there is no bound. If it is less than `least`, the tree is
-- repeated exactly `least` times.
abbrev pub times : ℕ → Option ℕ → Bool → Marked → Marked
times least most greedy t = in_turn (replicate least t ++ tail_of greedy t least most)

abbrev mutual
  -- The number of capturing groups in a part of a pattern. The body of a repeat counts once.
  pub groups_in : PatTree → ℕ
  groups_in (nothing span) = 0
  groups_in (class span set) = 0
  groups_in (seq span ps) = groups_in_items ps
  groups_in (choice span bs) = groups_in_branches bs
  groups_in (repeat span m least most greedy p) = groups_in p
  groups_in (group span true p) = suc (groups_in p)
  groups_in (group span false p) = groups_in p
  groups_in (anchor span kind multiline) = 0
  groups_in (boundary span negated ascii) = 0
  groups_in (look span behind negated ranges) = 0
  groups_in (outside span what) = 0

  -- The number of capturing groups in a sequence of items.
  pub groups_in_items : PatTrees → ℕ
  groups_in_items no_items = 0
  groups_in_items (item p ps) = groups_in p + groups_in_items ps

  -- The number of capturing groups in the branches of a choice.
  pub groups_in_branches : BranchTrees → ℕ
  groups_in_branches no_branches = 0
  groups_in_branches (branch span p bs) = groups_in p + groups_in_branches bs

abbrev mutual
  -- The tree with groups of a part of a pattern. Its capturing groups are numbered from `n` on, in the order of their opening
  -- parentheses. A feature that isn't judged (`outside`) becomes the empty tree.
  pub marked : PatTree → ℕ → Marked
  marked (nothing span) n = empty
  marked (class span set) n = one set
  marked (seq span ps) n = in_turn (items_marked ps n)
  marked (choice span bs) n = one_of (branches_marked bs n)
  marked (repeat span m least most greedy p) n = times least most greedy (marked p n)
  marked (group span true p) n = mark n (marked p (suc n))
  marked (group span false p) n = marked p n
  marked (anchor span kind multiline) n = guard (guard_of kind multiline)
  marked (boundary span negated ascii) n = guard (boundary_guard negated ascii)
  marked (look span behind negated ranges) n = guard (Look behind negated ranges)
  marked (outside span what) n = empty

  -- The trees of the items of a sequence, in order. Their groups are numbered from `n` on, through all items.
  pub items_marked : PatTrees → ℕ → List Marked
  items_marked no_items n = []
  items_marked (item p ps) n = marked p n ∷ items_marked ps (n + groups_in p)

  -- The trees of the branches of a choice, in order. Their groups are numbered from `n` on, through all branches.
  pub branches_marked : BranchTrees → ℕ → List Marked
  branches_marked no_branches n = []
  branches_marked (branch span p bs) n = marked p n ∷ branches_marked bs (n + groups_in p)

-- The tree after a test for the start of the text if the flag is `true`, that is, if there is a leading anchor; otherwise the
-- tree itself.
abbrev pub led : Bool → Marked → Marked
led true t = both (guard Start) t
led false t = t

-- The tree with groups of a pattern. A leading anchor is part of it, a trailing one isn't.
abbrev pub pattern_marked : Pattern → Marked
pattern_marked p = led (is_anchored p) (marked (body_of p) 1)
