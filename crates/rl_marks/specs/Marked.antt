-- Trees with groups. They are the trees of `rl_syntax` with two more forms: `mark` is the body of a capturing group, and
-- `further` joins the rounds of a counted repeat such as `{0,2}`. A code is a code point of a `str`, or a byte of a `bytes`.
use Rattle.std.specs.Prelude.{◌≡◌, ℕ, zero, suc, ◌+◌, Bool, true, false, ◌&&◌, ◌||◌}
use Rattle.rl_ranges.specs.Codes.{has}
use Rattle.rl_syntax.specs.declared.anchors.Guard.{Guard}
use Rattle.rl_syntax.specs.Tree.{Tree}
use Rattle.rl_syntax.specs.Tree as Plain
use Rattle.rl_marks.specs.declared.tree.MarkTree.{MarkTree, Empty, One, Both', Either', Many', Further', Mark', Guard as GuardTree}

-- A tree with groups.
pub data Marked : Type 0 where
  -- Matches the empty text.
  empty : Marked
  -- Matches one code of the set.
  one : (ℕ → Bool) → Marked
  -- Tests the position.
  guard : Guard → Marked
  -- The first tree, then the second.
  both : Marked → Marked → Marked
  -- Either tree. The first one is tried first.
  either : Marked → Marked → Marked
  -- The tree any number of times. If the flag is `true` (greedy), one more round is tried before stopping.
  many : Marked → Bool → Marked
  -- The first tree, and then the second if the first took a code. It joins a round of a counted repeat and those after it,
  -- since CPython tries no round after one that took no code. This shows in the groups: `(?:()|(a)){0,2}b` matches `ab` with
  -- the empty group 1 after the `a`, in the second round. With `both` it would be before the `a`, in the first.
  further : Marked → Marked → Marked
  -- The body of the capturing group with this number.
  mark : ℕ → Marked → Marked

-- The tree with groups that contracts see in place of the program's `MarkTree`. Each form becomes the form of the same name,
-- and a set of codes becomes the test of whether it holds a code.
abbrev pub marked_of : MarkTree → Marked
marked_of Empty = empty
marked_of (One set) = one (has set)
marked_of (GuardTree g) = guard g
marked_of (Both' p e q f) = both (marked_of e) (marked_of f)
marked_of (Either' p e q f) = either (marked_of e) (marked_of f)
marked_of (Many' p e greedy) = many (marked_of e) greedy
marked_of (Further' p e q f) = further (marked_of e) (marked_of f)
marked_of (Mark' n p e) = mark n (marked_of e)

-- The number of nodes of the tree.
abbrev pub nodes : Marked → ℕ
nodes empty = 1
nodes (one set) = 1
nodes (guard g) = 1
nodes (both e f) = suc (nodes e + nodes f)
nodes (either e f) = suc (nodes e + nodes f)
nodes (many e greedy) = suc (nodes e)
nodes (further e f) = suc (nodes e + nodes f)
nodes (mark n e) = suc (nodes e)

-- Whether no group of the tree has the number 0.
abbrev pub is_numbered : Marked → Bool
is_numbered empty = true
is_numbered (one set) = true
is_numbered (guard g) = true
is_numbered (both e f) = is_numbered e && is_numbered f
is_numbered (either e f) = is_numbered e && is_numbered f
is_numbered (many e greedy) = is_numbered e
is_numbered (further e f) = is_numbered e && is_numbered f
is_numbered (mark zero e) = false
is_numbered (mark (suc n) e) = is_numbered e

-- The tree of `rl_syntax` that is left without the groups: `mark` becomes its body, and `further` becomes `both`.
abbrev pub plain : Marked → Tree
plain empty = Plain.empty
plain (one set) = Plain.one set
plain (guard g) = Plain.guard g
plain (both e f) = Plain.both (plain e) (plain f)
plain (either e f) = Plain.either (plain e) (plain f)
plain (many e greedy) = Plain.many (plain e) greedy
plain (further e f) = Plain.both (plain e) (plain f)
plain (mark n e) = plain e

-- Whether the form of the tree shows that each match of it takes a code. It doesn't for `many`, which may take no round.
abbrev pub takes_code : Marked → Bool
takes_code empty = false
takes_code (one set) = true
takes_code (guard g) = false
takes_code (both e f) = takes_code e || takes_code f
takes_code (either e f) = takes_code e && takes_code f
takes_code (many e greedy) = false
takes_code (further e f) = takes_code e
takes_code (mark n e) = takes_code e

-- Holds if the first tree of each `further` takes a code by `takes_code`. So each round of a counted repeat after which
-- another may follow takes a code.
abbrev pub IsStrict : Marked → Type 0
IsStrict empty = Unit {0}
IsStrict (one set) = Unit {0}
IsStrict (guard g) = Unit {0}
IsStrict (both e f) = IsStrict e × IsStrict f
IsStrict (either e f) = IsStrict e × IsStrict f
IsStrict (many e greedy) = IsStrict e
IsStrict (further e f) = (takes_code e ≡ true) × IsStrict e × IsStrict f
IsStrict (mark n e) = IsStrict e
