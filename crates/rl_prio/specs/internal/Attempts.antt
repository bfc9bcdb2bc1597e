-- For the contracts of private functions: attempts, and the item lists of a tree, one for each place, in order. An item is
-- what a backtracking matcher tries next: the test of a place, or the end of the tree, after a list of guards (anchors, word
-- boundaries and lookarounds of one character). An attempt is an item with its guards as a set. The places of a tree are its
-- sets, numbered from left to right. Codes of one kind look alike to all guards of the tree, and `kinds` is the table of the
-- tree's kinds.
use Rattle.std.specs.Prelude.{◌≡◌, ℕ, ◌+◌, ◌<◌, ◌≤◌, ◌⊎◌, Bool, true, false, List, [], ◌∷◌, ◌++◌, length, map, max, slice_index_or}
use Rattle.std.specs.List.{flat_map}
use Rattle.rl_ranges.specs.Letters.{LetterTable}
use Rattle.rl_syntax.specs.Tree.{Tree, empty, one, guard, both, either, many, places}
use Rattle.rl_syntax.specs.declared.limits.TheConstants.{MOST_MOVES}
use Rattle.rl_prio.specs.Items.{Item, test_at, pass, replaced, first}
use Rattle.rl_prio.specs.internal.GuardSets.{has_none, joined, guard_set}
use Rattle.rl_prio.specs.declared.build.guards.Guards.{Guards}
use Rattle.rl_prio.specs.declared.build.attempts.Attempt.{Attempt}
use Rattle.rl_prio.specs.declared.build.attempts.Attempt.TheVariants.{Test, End}

-- The attempt of an item, which has the item's guards as a set.
abbrev pub attempt : LetterTable → Item → Attempt
attempt kinds (test_at gs p) = Test (guard_set kinds gs) p
attempt kinds (pass gs) = End (guard_set kinds gs)

-- The attempts of the items, in order.
abbrev pub attempts : LetterTable → List Item → List Attempt
attempts kinds l = map (attempt kinds) l

-- The guards of an attempt.
abbrev pub guards_of : Attempt → Guards
guards_of (Test gs p) = gs
guards_of (End gs) = gs

-- Whether the attempt has no guards.
abbrev pub is_unguarded : Attempt → Bool
is_unguarded a = has_none (guards_of a)

-- Whether the attempt is the test of a place, not an end.
abbrev pub is_test : Attempt → Bool
is_test (Test gs p) = true
is_test (End gs) = false

-- The attempt with the guards `gs` added to its own.
abbrev pub behind : Guards → Attempt → Attempt
behind gs (Test hs p) = Test (joined gs hs) p
behind gs (End hs) = End (joined gs hs)

-- What an attempt becomes if ends are replaced: an end becomes the attempts in `further`, each with the guards of the end
-- added, and a test stays.
abbrev pub onward : List Attempt → Attempt → List Attempt
onward further (Test gs p) = Test gs p ∷ []
onward further (End gs) = map (behind gs) further

-- The attempts with each end replaced by the attempts in `further`, which get the guards of that end.
abbrev pub ends_replaced : List Attempt → List Attempt → List Attempt
ends_replaced l further = flat_map (onward further) l

-- Holds if `new` is `old` with each end replaced by `further` in the lists from `from` up to, but not including, `to`. All
-- other lists are unchanged.
pub record AreReplaced (further : List Attempt) (from to : ℕ) (old new : List (List Attempt)) : Type 0 where
  pub same_count : length new ≡ length old
  pub inside : (k : ℕ) → from ≤ k → k < to → slice_index_or new k [] ≡ ends_replaced (slice_index_or old k []) further
  pub outside : (k : ℕ) → (k < from) ⊎ (to ≤ k) → slice_index_or new k [] ≡ slice_index_or old k []

-- The lists with each end replaced by the items in `further`, which get the guards of that end in front.
abbrev pub followed : List (List Item) → List Item → List (List Item)
followed [] further = []
followed (l ∷ ls) further = replaced l further ∷ followed ls further

-- The items after each place of a tree has succeeded: one list for each place, in order. The first place has the number `b`.
abbrev pub lists_of : Tree → ℕ → List (List Item)
lists_of empty b = []
lists_of (one set) b = (pass [] ∷ []) ∷ []
lists_of (guard g) b = []
lists_of (both e f) b = followed (lists_of e b) (first f (b + places e)) ++ lists_of f (b + places e)
lists_of (either e f) b = lists_of e b ++ lists_of f (b + places e)
lists_of (many e greedy) b = followed (lists_of e b) (first (many e greedy) b)

-- The length of the longest of the lists, or 0 if there are none.
abbrev pub widest : List (List Item) → ℕ
widest [] = 0
widest (l ∷ ls) = max (length l) (widest ls)

-- The length of the longest item list of a tree whose first place has the number `b`: the one of entering it, or one after a
-- place.
abbrev pub width_of : Tree → ℕ → ℕ
width_of t b = max (length (first t b)) (widest (lists_of t b))

-- Holds if `list` has the attempts of entering the tree, `new` is `old` with the attempt lists of the tree's places appended,
-- and none of these lists has more than MOST_MOVES attempts. The number of the tree's first place is the number of lists in
-- `old`. The tree may be a part of the one whose kinds are given.
pub record AreEntered (kinds : LetterTable) (t : Tree) (old new : List (List Attempt)) (list : List Attempt) : Type 0 where
  pub entering : list ≡ attempts kinds (first t (length old))
  pub lists : new ≡ old ++ map (attempts kinds) (lists_of t (length old))
  pub short : width_of t (length old) ≤ MOST_MOVES

-- Holds if, with each end replaced by `further`, `list` or one of the lists from `from` up to, but not including, `to` would
-- have more than MOST_MOVES attempts.
abbrev pub IsTooWide : List Attempt → List Attempt → ℕ → ℕ → List (List Attempt) → Type 0
IsTooWide list further from to lists =
    (MOST_MOVES < length (ends_replaced list further)) ⊎ ((k : ℕ) × (from ≤ k) × (k < to) × (MOST_MOVES < length (ends_replaced (slice_index_or lists k []) further)))

-- Holds if none of the lists from `from` up to, but not including, `to` has more than MOST_MOVES attempts.
abbrev pub AreShort : ℕ → ℕ → List (List Attempt) → Type 0
AreShort from to lists = (k : ℕ) → from ≤ k → k < to → length (slice_index_or lists k []) ≤ MOST_MOVES
