-- The sets of a body lie in the pattern's universe, and so do the samples of its letters.
use Rattle.std.proofs.Common.{◌≡◌, ℕ, zero, suc, Bool, List, [], ◌∷◌, ◌++◌, map, sym, subst, arith}
use Rattle.std.specs.List.{All}
use Rattle.rl_ranges.specs.declared.universe.Universe.{Universe}
use Rattle.rl_ranges.specs.Codes.{has, IsInside}
use Rattle.rl_syntax.specs.IsPattern.{IsPart, AreParts, AreBranches}
use Rattle.rl_syntax.specs.PatTree.{PatTree, PatTrees, BranchTrees, nothing, class, seq, choice, repeat, group, anchor, boundary, look, outside, no_items, item, no_branches, branch}
use Rattle.rl_syntax.specs.Tree.{AllLieIn}
use Rattle.rl_parts.specs.Sets.{sets_in, sets_in_items, sets_in_branches}

joined : (u : Universe) (s t : List (ℕ → Bool)) → AllLieIn u s → AllLieIn u t → AllLieIn u (s ++ t)
joined u [] t h k = k
joined u (set ∷ s) t h k = (h.0, joined u s t h.1 k)

mutual
  part-inside : (u : Universe) (p : PatTree) → IsPart u p → AllLieIn u (sets_in p)
  part-inside u (nothing span) h = tt
  part-inside u (class span set) h = (h, tt)
  part-inside u (seq span ps) h = items-inside u ps h
  part-inside u (choice span bs) h = branches-inside u bs h
  part-inside u (repeat span mark least most greedy p) h = part-inside u p h.1
  part-inside u (group span captures p) h = part-inside u p h
  part-inside u (anchor span kind multiline) h = tt
  part-inside u (boundary span negated ascii) h = tt
  part-inside u (look span behind negated ranges) h = (h, tt)
  part-inside u (outside span what) h = absurd h

  items-inside : (u : Universe) (ps : PatTrees) → AreParts u ps → AllLieIn u (sets_in_items ps)
  items-inside u no_items h = tt
  items-inside u (item p ps) h = joined u (sets_in p) (sets_in_items ps) (part-inside u p h.0) (items-inside u ps h.1)

  branches-inside : (u : Universe) (bs : BranchTrees) → AreBranches u bs → AllLieIn u (sets_in_branches bs)
  branches-inside u no_branches h = tt
  branches-inside u (branch span p bs) h =
      joined u (sets_in p) (sets_in_branches bs) (part-inside u p h.0) (branches-inside u bs h.1)

listed : (u : Universe) (sets : List (List (ℕ × ℕ))) → AllLieIn u (map has sets) → All (IsInside u) sets
listed u [] h i x bound = absurd (omega arith)
listed u (s ∷ sets) h zero x bound = h.0
listed u (s ∷ sets) h (suc i) x bound = listed u sets h.1 i x (omega arith)

-- The sets that a body has lie in the universe.
pub all_inside : (u : Universe) (p : PatTree) (sets : List (List (ℕ × ℕ))) → IsPart u p → map has sets ≡ sets_in p → All (IsInside u) sets
all_inside u p sets h e = listed u sets (subst (AllLieIn u) (sym e) (part-inside u p h))
