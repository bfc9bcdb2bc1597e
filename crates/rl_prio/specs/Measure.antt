-- The measure of a tree over the codes below `n`: its size, or more if it has a lookaround. The number of states is bounded by
-- it. Without a lookaround there are at most 4 kinds of codes, whatever the tree; with one there can be as many as letters, so
-- that the number of kinds counts as well.
use Rattle.std.specs.Prelude.{ℕ, suc, ◌*◌, length, if◌then◌else◌}
use Rattle.rl_syntax.specs.Tree.{Tree, size, has_look}
use Rattle.rl_prio.specs.Letters.{kinds}

-- The size of the tree. If some guard of the tree is a lookaround, it is multiplied by one more than the number of kinds of the
-- codes below `n`.
abbrev pub measure : ℕ → Tree → ℕ
measure n t = if has_look t then size t * suc (length (kinds t n)) else size t
