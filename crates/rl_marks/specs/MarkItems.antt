-- Items of a tree with groups: what a backtracking matcher tries at a point of the tree, in order. Each item has a list of
-- acts, in order, and then the test of a place or the end of the tree. An act is a guard to check, or the opening or closing
-- of a group. The places of a tree are its sets, numbered from left to right, from 0 in a whole tree. An item that ends the
-- tree is a `pass`. Entering `further` doesn't go on to its second tree, which is tried only after a code.
use Rattle.std.specs.Prelude.{ℕ, ◌+◌, Bool, nat_lt, List, [], ◌∷◌, ◌++◌, if◌then◌else◌}
use Rattle.rl_syntax.specs.Tree as Plain
use Rattle.rl_syntax.specs.Run.{one_more}
use Rattle.rl_marks.specs.Marked.{Marked, empty, one, guard, both, either, many, further, mark, plain}
pub use Rattle.rl_marks.specs.declared.threads.MarkItem.{MarkItem}
pub use Rattle.rl_marks.specs.declared.threads.MarkItem.TheVariants.{Test as test_at, Pass as pass}
pub use Rattle.rl_marks.specs.declared.threads.Act.{Act}
pub use Rattle.rl_marks.specs.declared.threads.Act.TheVariants.{Check as check, OpenGroup as open_group, CloseGroup as close_group}

-- The item with the acts of the list in front of its own. A test keeps its place.
abbrev pub prefixed : List Act → MarkItem → MarkItem
prefixed as_ (test_at acts p) = test_at (as_ ++ acts) p
prefixed as_ (pass acts) = pass (as_ ++ acts)

-- The items, each with the acts of the list in front of its own.
abbrev pub all_prefixed : List Act → List MarkItem → List MarkItem
all_prefixed acts [] = []
all_prefixed acts (m ∷ l) = prefixed acts m ∷ all_prefixed acts l

-- The items with each `pass` replaced by the items in `others`, which get the acts of that `pass` in front.
abbrev pub replaced : List MarkItem → List MarkItem → List MarkItem
replaced [] others = []
replaced (test_at acts p ∷ l) others = test_at acts p ∷ replaced l others
replaced (pass acts ∷ l) others = all_prefixed acts others ++ replaced l others

-- The number of places of the tree, that is, of its sets.
abbrev pub places : Marked → ℕ
places m = Plain.places (plain m)

-- The items of entering the tree, in the order in which they are tried. The first place of the tree has the number `b`.
abbrev pub first : Marked → ℕ → List MarkItem
first empty b = pass [] ∷ []
first (one set) b = test_at [] b ∷ []
first (guard g) b = pass (check g ∷ []) ∷ []
first (both e f) b = replaced (first e b) (first f (b + places e))
first (either e f) b = first e b ++ first f (b + places e)
first (many e greedy) b = one_more greedy (pass []) (first e b)
first (further e f) b = first e b
first (mark n e) b = all_prefixed (open_group ∷ []) (replaced (first e b) (pass (close_group n ∷ []) ∷ []))

-- The items after the test of the place `p` has succeeded, in a tree whose first place has the number `b`, in the order in
-- which they are tried. `p` must be a place of the tree: for any other number, the list means nothing.
abbrev pub after : Marked → ℕ → ℕ → List MarkItem
after empty b p = []
after (one set) b p = pass [] ∷ []
after (guard g) b p = []
after (both e f) b p =
    if nat_lt p (b + places e) then replaced (after e b p) (first f (b + places e)) else after f (b + places e) p
after (either e f) b p = if nat_lt p (b + places e) then after e b p else after f (b + places e) p
after (many e greedy) b p = replaced (after e b p) (first (many e greedy) b)
after (further e f) b p =
    if nat_lt p (b + places e) then replaced (after e b p) (first f (b + places e)) else after f (b + places e) p
after (mark n e) b p = replaced (after e b p) (pass (close_group n ∷ []) ∷ [])
