-- Letters and kinds of a tree. Two codes belong to the same letter if each set of the tree, and each set that its guards use,
-- holds both of them or neither. They are of the same kind if each set that the guards use holds both of them or neither. Both
-- are numbered from 0, in the order of their least codes. Guards are anchors, word boundaries and lookarounds of one character.
use Rattle.std.specs.Prelude.{ℕ, Bool, List, ◌++◌}
use Rattle.rl_ranges.specs.Letters.{classes, class_of}
use Rattle.rl_syntax.specs.Tree.{Tree, sets_in, guard_sets}

-- The sets that distinguish codes: the sets of the tree, and the sets that its guards use.
abbrev pub all_sets : Tree → List (ℕ → Bool)
all_sets t = sets_in t ++ guard_sets t

-- The least code of each letter of the codes below `n`, in ascending order.
abbrev pub letters : Tree → ℕ → List ℕ
letters t n = classes (all_sets t) n

-- The least code of each kind of the codes below `n`, in ascending order.
abbrev pub kinds : Tree → ℕ → List ℕ
kinds t n = classes (guard_sets t) n

-- The number of the kind of the code, among the kinds of the codes below `n`. Kinds are numbered from 0, in the order of their
-- least codes. If the code belongs to none of them, this is how many there are.
abbrev pub kind_of : Tree → ℕ → ℕ → ℕ
kind_of t n code = class_of (guard_sets t) n code
