-- What holds for the tree with groups of each pattern: its sets hold only codes of the universe, groups are numbered from 1,
-- and the number of nodes is limited. The tree with groups of a pattern has each capturing group marked with its number.
use Rattle.std.specs.Prelude.{ℕ, ◌≤◌, Bool, true, List, [], ◌∷◌, IsTrue}
use Rattle.std.specs.Coded.{×_prop, Unit-prop, le_prop, Coded-set, coded_bool}
use Rattle.rl_ranges.specs.declared.universe.Universe.{Universe}
use Rattle.rl_syntax.specs.declared.limits.TheConstants.{MOST_NODES}
use Rattle.rl_syntax.specs.Guards.{sets_named}
use Rattle.rl_syntax.specs.Tree.{Tree, empty, one, guard, both, either, many, IsOver, AllLieIn}
use Rattle.rl_syntax.specs.IsPattern.{LiesIn-prop}
use Rattle.rl_marks.specs.Marked.{Marked, plain, nodes, is_numbered}

-- Holds if the sets of the tree, and those that its guards use, hold only codes of the universe, no group has the number 0,
-- and the tree has at most MOST_NODES nodes. This holds for the tree of each pattern over the universe.
pub record IsMarked (u : Universe) (t : Marked) : Type 0 where
  pub over : IsOver u (plain t)
  pub numbered : IsTrue (is_numbered t)
  pub small : nodes t ≤ MOST_NODES

-- Any two proofs of `AllLieIn u sets` are equal.
pub AllLieIn-prop : (u : Universe) (sets : List (ℕ → Bool)) → IsProp (AllLieIn u sets)
AllLieIn-prop u [] = Unit-prop
AllLieIn-prop u (set ∷ sets) = ×_prop (LiesIn-prop u set) (AllLieIn-prop u sets)

-- Any two proofs of `IsOver u t` are equal.
pub IsOver-prop : (u : Universe) (t : Tree) → IsProp (IsOver u t)
IsOver-prop u empty = Unit-prop
IsOver-prop u (one set) = LiesIn-prop u set
IsOver-prop u (guard g) = AllLieIn-prop u (sets_named g)
IsOver-prop u (both e f) = ×_prop (IsOver-prop u e) (IsOver-prop u f)
IsOver-prop u (either e f) = ×_prop (IsOver-prop u e) (IsOver-prop u f)
IsOver-prop u (many e greedy) = IsOver-prop u e

-- Any two proofs of `IsMarked u t` are equal.
pub IsMarked-prop : (u : Universe) (t : Marked) → IsProp (IsMarked u t)
IsMarked-prop u t =
    λ a b i. record {
      over = IsOver-prop u (plain t) a.over b.over i;
      numbered = Coded-set coded_bool (is_numbered t) true a.numbered b.numbered i;
      small = le_prop a.small b.small i;
    }
