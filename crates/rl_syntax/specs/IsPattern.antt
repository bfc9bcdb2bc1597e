-- Bodies of patterns. A pattern as it is written is a `PatTree`, a tree of parts. Its body is the rest when its outer anchors
-- have been removed: `\A` and `^` without MULTILINE at the start, and `\Z` and `$` without MULTILINE at the end, unless the
-- pattern is a choice between branches. A body contains no feature that isn't judged and no `$` without MULTILINE. Its sets,
-- and the sets of word characters that its word boundaries use, contain only codes of the universe, `str` or `bytes`. No
-- repeat has a maximum less than its minimum.
use Rattle.std.specs.Prelude.{ℕ, ◌≤◌, Bool, true, false, not, ◌&&◌, IsTrue, Option, None, Some}
use Rattle.std.specs.Coded.{×_prop, Π_prop, Unit-prop, le_prop, Coded-set, coded_bool}
use mathlib.Core.HLevel.{⊥_prop}
use Rattle.rl_ranges.specs.Codes.{has}
use Rattle.rl_ranges.specs.declared.universe.Universe.{Universe}
use Rattle.rl_syntax.specs.declared.anchors.AnchorKind.{AnchorKind}
use Rattle.rl_syntax.specs.declared.anchors.AnchorKind.TheVariants.{Caret, TextStart, Dollar, TextEnd}
use Rattle.rl_syntax.specs.Guards.{is_word}
use Rattle.rl_syntax.specs.Tree.{LiesIn}
use Rattle.rl_syntax.specs.PatTree.{PatTree, PatTrees, BranchTrees, nothing, class, seq, choice, repeat, group, anchor, boundary, look, outside, no_items, item, no_branches, branch}

-- Whether the anchor may occur within a body. Only `$` without MULTILINE may not. The flag is MULTILINE.
abbrev pub is_inner : AnchorKind → Bool → Bool
is_inner Caret multiline = true
is_inner TextStart multiline = true
is_inner Dollar multiline = multiline
is_inner TextEnd multiline = true

-- Whether the anchor is an outer one if it is at the start of a body of one branch: `\A`, or `^` without MULTILINE. The flag
-- is MULTILINE.
abbrev pub is_leading : AnchorKind → Bool → Bool
is_leading Caret multiline = not multiline
is_leading TextStart multiline = true
is_leading Dollar multiline = false
is_leading TextEnd multiline = false

-- Whether the anchor is an outer one if it is at the end of a body of one branch: `\Z`, or `$` without MULTILINE. The flag is
-- MULTILINE.
abbrev pub is_trailing : AnchorKind → Bool → Bool
is_trailing Caret multiline = false
is_trailing TextStart multiline = false
is_trailing Dollar multiline = not multiline
is_trailing TextEnd multiline = true

-- Holds if the minimum of a quantifier isn't greater than its maximum, or if it has no maximum.
abbrev pub InOrder : ℕ → Option ℕ → Type 0
InOrder least None = Unit {0}
InOrder least (Some most) = least ≤ most

abbrev mutual
  -- Holds if the part may occur in a body over the universe: it has no feature that isn't judged and no `$` without MULTILINE,
  -- its sets and those of its word boundaries contain only codes of the universe, and no repeat has a maximum less than its
  -- minimum.
  pub IsPart : Universe → PatTree → Type 0
  IsPart u (nothing span) = Unit {0}
  IsPart u (class span set) = LiesIn u set
  IsPart u (seq span ps) = AreParts u ps
  IsPart u (choice span bs) = AreBranches u bs
  IsPart u (repeat span mark least most greedy p) = InOrder least most × IsPart u p
  IsPart u (group span captures p) = IsPart u p
  IsPart u (anchor span kind multiline) = IsTrue (is_inner kind multiline)
  IsPart u (boundary span negated ascii) = LiesIn u (is_word ascii)
  IsPart u (look span behind negated ranges) = LiesIn u (has ranges)
  IsPart u (outside span what) = ⊥

  -- Holds if every item of the sequence may occur in a body over the universe. Holds if there is none.
  pub AreParts : Universe → PatTrees → Type 0
  AreParts u no_items = Unit {0}
  AreParts u (item p ps) = IsPart u p × AreParts u ps

  -- Holds if every branch of the choice may occur in a body over the universe. Holds if there is none.
  pub AreBranches : Universe → BranchTrees → Type 0
  AreBranches u no_branches = Unit {0}
  AreBranches u (branch span p bs) = IsPart u p × AreBranches u bs

-- Whether the item is an anchor that is an outer one at the start of a body.
abbrev pub is_leading_item : PatTree → Bool
is_leading_item (anchor span kind multiline) = is_leading kind multiline
is_leading_item p = false

-- Whether the item is an anchor that is an outer one at the end of a body.
abbrev pub is_trailing_item : PatTree → Bool
is_trailing_item (anchor span kind multiline) = is_trailing kind multiline
is_trailing_item p = false

-- Whether there is a first item, and it is an outer anchor at the start of a body.
abbrev pub begins_anchored : PatTrees → Bool
begins_anchored no_items = false
begins_anchored (item p ps) = is_leading_item p

-- Whether there is a last item, and it is an outer anchor at the end of a body.
abbrev pub ends_anchored : PatTrees → Bool
ends_anchored no_items = false
ends_anchored (item p no_items) = is_trailing_item p
ends_anchored (item p (item q ps)) = ends_anchored (item q ps)

-- Whether the body has no outer anchor left at its start or end: neither the first nor the last item of a sequence is one, and
-- the body isn't one itself. A body that is neither a sequence nor an anchor has none, even if a part of it begins or ends
-- with an anchor.
abbrev pub is_bare : PatTree → Bool
is_bare (seq span ps) = not (begins_anchored ps) && not (ends_anchored ps)
is_bare (anchor span kind multiline) = not (is_leading kind multiline) && not (is_trailing kind multiline)
is_bare p = true

-- Holds if the tree is the body of a pattern over the universe, with its outer anchors removed: every part may occur in a
-- body, and no outer anchor is left.
pub record IsPattern (u : Universe) (body : PatTree) : Type 0 where
  pub parts : IsPart u body
  pub bare : IsTrue (is_bare body)

-- Any two proofs that the set contains only codes of the universe are equal. The same is shown below of the other parts of
-- `IsPattern`, because a `Pattern` of the program keeps a proof of it.
pub LiesIn-prop : (u : Universe) (set : ℕ → Bool) → IsProp (LiesIn u set)
LiesIn-prop u set = Π_prop (λ code. Π_prop (λ _. le_prop))

-- Any two proofs that the bounds are in order are equal.
pub InOrder-prop : (least : ℕ) (most : Option ℕ) → IsProp (InOrder least most)
InOrder-prop least None = Unit-prop
InOrder-prop least (Some most) = le_prop

mutual
  -- Any two proofs that the part may occur in a body are equal.
  pub IsPart-prop : (u : Universe) (p : PatTree) → IsProp (IsPart u p)
  IsPart-prop u (nothing span) = Unit-prop
  IsPart-prop u (class span set) = LiesIn-prop u set
  IsPart-prop u (seq span ps) = AreParts-prop u ps
  IsPart-prop u (choice span bs) = AreBranches-prop u bs
  IsPart-prop u (repeat span mark least most greedy p) = ×_prop (InOrder-prop least most) (IsPart-prop u p)
  IsPart-prop u (group span captures p) = IsPart-prop u p
  IsPart-prop u (anchor span kind multiline) = Coded-set coded_bool (is_inner kind multiline) true
  IsPart-prop u (boundary span negated ascii) = LiesIn-prop u (is_word ascii)
  IsPart-prop u (look span behind negated ranges) = LiesIn-prop u (has ranges)
  IsPart-prop u (outside span what) = ⊥_prop

  -- Any two proofs that the items may occur in a body are equal.
  pub AreParts-prop : (u : Universe) (ps : PatTrees) → IsProp (AreParts u ps)
  AreParts-prop u no_items = Unit-prop
  AreParts-prop u (item p ps) = ×_prop (IsPart-prop u p) (AreParts-prop u ps)

  -- Any two proofs that the branches may occur in a body are equal.
  pub AreBranches-prop : (u : Universe) (bs : BranchTrees) → IsProp (AreBranches u bs)
  AreBranches-prop u no_branches = Unit-prop
  AreBranches-prop u (branch span p bs) = ×_prop (IsPart-prop u p) (AreBranches-prop u bs)

-- Any two proofs that the tree is the body of a pattern over the universe are equal.
pub IsPattern-prop : (u : Universe) (body : PatTree) → IsProp (IsPattern u body)
IsPattern-prop u body =
    λ a b i. record { parts = IsPart-prop u body a.parts b.parts i; bare = Coded-set coded_bool (is_bare body) true a.bare b.bare i }
