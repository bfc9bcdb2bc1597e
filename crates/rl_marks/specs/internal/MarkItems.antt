-- What an item of a tree with groups does at a position of the text: whether its guards hold there, and what is known of the
-- groups after its acts. An item is what a matcher tries: acts in order, and then the test of a place or the end of the tree.
-- An act is a guard to check, or the opening or closing of a group. The places of a tree are its sets, numbered from left to
-- right.
use Rattle.std.specs.Prelude.{ℕ, Bool, true, ◌&&◌, List, [], ◌∷◌, Option}
use Rattle.rl_syntax.specs.Guards.{holds}
use Rattle.rl_prio.specs.Items as Items
use Rattle.rl_marks.specs.Marked.{Marked, plain}
pub use Rattle.rl_marks.specs.MarkItems.{MarkItem, test_at, pass, Act, check, open_group, close_group, prefixed, all_prefixed, replaced, places, first, after}
use Rattle.rl_marks.specs.internal.Caps.{Caps, opened, closed_at}

-- Whether the set of the place `p` holds a code, which is the last argument, in a tree whose first place has the number `b`.
-- `p` must be a place of the tree.
abbrev pub set_of : Marked → ℕ → ℕ → ℕ → Bool
set_of m b p = Items.set_of (plain m) b p

-- Whether each guard among the acts holds between the code before a position and the next one. Either may be missing.
abbrev pub allowed : List Act → Option ℕ → Option ℕ → Bool
allowed [] before next = true
allowed (check g ∷ acts) before next = holds g before next && allowed acts before next
allowed (open_group ∷ acts) before next = allowed acts before next
allowed (close_group n ∷ acts) before next = allowed acts before next

-- What is known of the groups after the acts are carried out at position `i`, in order. Guards change nothing.
abbrev pub performed : List Act → ℕ → Caps → Caps
performed [] i c = c
performed (check g ∷ acts) i c = performed acts i c
performed (open_group ∷ acts) i c = performed acts i (opened i c)
performed (close_group n ∷ acts) i c = performed acts i (closed_at n i c)
