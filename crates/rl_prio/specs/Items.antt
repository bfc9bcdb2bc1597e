-- Items: what a backtracking matcher tries at a point of a tree, in order. An item has the guards on the way to it, followed
-- by the test of a place or by the end of the tree. The places of a tree are its sets, numbered from left to right. Items are
-- the ordered moves of the automata of Weideman, van der Merwe, Berglund and Watson (2016), defined by recursion on the tree.
-- Guards are anchors, word boundaries and lookarounds of one character.
use Rattle.std.specs.Prelude.{ℕ, zero, suc, ◌+◌, Bool, true, false, ◌&&◌, nat_lt, List, [], ◌∷◌, ◌++◌, length, max, Option, if◌then◌else◌}
use Rattle.rl_syntax.specs.declared.anchors.Guard.{Guard}
use Rattle.rl_syntax.specs.Guards.{holds}
use Rattle.rl_syntax.specs.Tree.{Tree, empty, one, guard, both, either, many, places}
use Rattle.rl_syntax.specs.Run.{one_more}

-- An item: what a matcher tries next.
pub data Item : Type 0 where
  -- The guards, and then the test of a place.
  test_at : List Guard → ℕ → Item
  -- The guards, and then the end of the tree.
  pass : List Guard → Item

-- The item with the guards of the list in front of its own.
abbrev pub guarded : List Guard → Item → Item
guarded gs (test_at hs p) = test_at (gs ++ hs) p
guarded gs (pass hs) = pass (gs ++ hs)

-- The items, each with the guards of the list in front of its own.
abbrev pub all_guarded : List Guard → List Item → List Item
all_guarded gs [] = []
all_guarded gs (m ∷ l) = guarded gs m ∷ all_guarded gs l

-- The items with each end replaced by the items in `further`, which get the guards of that end in front.
abbrev pub replaced : List Item → List Item → List Item
replaced [] further = []
replaced (test_at gs p ∷ l) further = test_at gs p ∷ replaced l further
replaced (pass gs ∷ l) further = all_guarded gs further ++ replaced l further

-- The items of entering a tree, in the order in which they are tried. The first place of the tree has the number `b`.
abbrev pub first : Tree → ℕ → List Item
first empty b = pass [] ∷ []
first (one set) b = test_at [] b ∷ []
first (guard g) b = pass (g ∷ []) ∷ []
first (both e f) b = replaced (first e b) (first f (b + places e))
first (either e f) b = first e b ++ first f (b + places e)
first (many e greedy) b = one_more greedy (pass []) (first e b)

-- The items after the test of the place `p` has succeeded, in a tree whose first place has the number `b`, in the order in
-- which they are tried. `p` must be a place of the tree: for any other number, the list means nothing.
abbrev pub after : Tree → ℕ → ℕ → List Item
after empty b p = []
after (one set) b p = pass [] ∷ []
after (guard g) b p = []
after (both e f) b p =
    if nat_lt p (b + places e) then replaced (after e b p) (first f (b + places e)) else after f (b + places e) p
after (either e f) b p = if nat_lt p (b + places e) then after e b p else after f (b + places e) p
after (many e greedy) b p = replaced (after e b p) (first (many e greedy) b)

-- Whether the set of the place `p` holds the code, in a tree whose first place has the number `b`. `p` must be a place of the
-- tree: for any other number, the answer means nothing.
abbrev pub set_of : Tree → ℕ → ℕ → ℕ → Bool
set_of empty b p code = false
set_of (one set) b p code = set code
set_of (guard g) b p code = false
set_of (both e f) b p code = if nat_lt p (b + places e) then set_of e b p code else set_of f (b + places e) p code
set_of (either e f) b p code = if nat_lt p (b + places e) then set_of e b p code else set_of f (b + places e) p code
set_of (many e greedy) b p code = set_of e b p code

-- Whether all guards hold between the code before a position and the next one. Either may be missing.
abbrev pub all_hold : List Guard → Option ℕ → Option ℕ → Bool
all_hold [] before next = true
all_hold (g ∷ gs) before next = holds g before next && all_hold gs before next

-- The length of the longest item list among the one of entering the tree and those after its first places. The number says
-- after how many places lists are included.
abbrev pub longest_of : Tree → ℕ → ℕ
longest_of t zero = length (first t 0)
longest_of t (suc p) = max (longest_of t p) (length (after t 0 p))

-- The length of the longest item list of the tree: the one of entering it, or one after a place.
abbrev pub longest : Tree → ℕ
longest t = longest_of t (places t)
