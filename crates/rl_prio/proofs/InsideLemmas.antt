-- The sets of a tree, and the sets that its guards name, are subsets of the universe.
use Rattle.std.proofs.Common.{◌≡◌, ℕ, Bool, List, [], ◌∷◌, ◌++◌, map, All, sym, subst}
use Rattle.std.proofs.lemmas.List.Elements.{All-nil, All-cons, All-head, All-tail}
use Rattle.rl_ranges.specs.Codes.{has, IsInside}
use Rattle.rl_ranges.specs.declared.universe.Universe.{Universe}
use Rattle.rl_syntax.specs.Tree.{Tree, empty, one, guard, both, either, many, sets_in, guard_sets, AllLieIn, IsOver}
use Rattle.rl_prio.specs.Letters.{all_sets}

lie-append : (u : Universe) (xs ys : List (ℕ → Bool)) → AllLieIn u xs → AllLieIn u ys → AllLieIn u (xs ++ ys)
lie-append u [] ys p q = q
lie-append u (s ∷ xs) ys p q = (p.0, lie-append u xs ys p.1 q)

pub sets_in-lie : (u : Universe) (t : Tree) → IsOver u t → AllLieIn u (sets_in t)
sets_in-lie u empty h = tt
sets_in-lie u (one s) h = (h, tt)
sets_in-lie u (guard g) h = tt
sets_in-lie u (both e f) h = lie-append u (sets_in e) (sets_in f) (sets_in-lie u e h.0) (sets_in-lie u f h.1)
sets_in-lie u (either e f) h = lie-append u (sets_in e) (sets_in f) (sets_in-lie u e h.0) (sets_in-lie u f h.1)
sets_in-lie u (many e greedy) h = sets_in-lie u e h

pub guard_sets-lie : (u : Universe) (t : Tree) → IsOver u t → AllLieIn u (guard_sets t)
guard_sets-lie u empty h = tt
guard_sets-lie u (one s) h = tt
guard_sets-lie u (guard g) h = h
guard_sets-lie u (both e f) h = lie-append u (guard_sets e) (guard_sets f) (guard_sets-lie u e h.0) (guard_sets-lie u f h.1)
guard_sets-lie u (either e f) h = lie-append u (guard_sets e) (guard_sets f) (guard_sets-lie u e h.0) (guard_sets-lie u f h.1)
guard_sets-lie u (many e greedy) h = guard_sets-lie u e h

lie-inside : (u : Universe) (l : List (List (ℕ × ℕ))) → AllLieIn u (map has l) → All (IsInside u) l
lie-inside u [] h = All-nil (IsInside u)
lie-inside u (s ∷ l) h = All-cons (IsInside u) s l h.0 (lie-inside u l h.1)

inside-lie : (u : Universe) (l : List (List (ℕ × ℕ))) → All (IsInside u) l → AllLieIn u (map has l)
inside-lie u [] h = tt
inside-lie u (s ∷ l) h = (All-head (IsInside u) s l h, inside-lie u l (All-tail (IsInside u) s l h))

-- Sets that are added to sets of the universe.
pub added-inside : (u : Universe) (old new : List (List (ℕ × ℕ))) (more : List (ℕ → Bool)) → map has new ≡ map has old ++ more → AllLieIn u more → All (IsInside u) old → All (IsInside u) new
added-inside u old new more is h k = lie-inside u new (subst (AllLieIn u) (sym is) (lie-append u (map has old) more (inside-lie u old k) h))

pub all_sets-lie : (u : Universe) (t : Tree) → IsOver u t → AllLieIn u (all_sets t)
all_sets-lie u t h = lie-append u (sets_in t) (guard_sets t) (sets_in-lie u t h) (guard_sets-lie u t h)
