-- Ways that are gone again and again.
use Rattle.std.specs.Prelude.{ℕ, zero, suc, List, [], ◌++◌}
use Rattle.rl_ways.specs.declared.item.ToldItem.{ToldItem}

-- The way, `k` times over. The empty way if `k` is 0.
abbrev pub told_again : ℕ → List ToldItem → List ToldItem
told_again zero l = []
told_again (suc k) l = l ++ told_again k l
