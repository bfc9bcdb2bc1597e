-- The loop that a way goes round: the innermost one whose body has all places of the way. Places and nodes are numbered as in
-- `Told.antt` of `rl_ways`.
use Rattle.std.specs.Prelude.{ℕ, suc, ◌+◌, Bool, true, ◌&&◌, nat_lt, nat_le, List, [], ◌∷◌, Option, None, Some, option_map, if◌then◌else◌}
use Rattle.rl_syntax.specs.Tree.{Tree, empty, one, guard, both, either, many, places, size}
use Rattle.rl_ways.specs.declared.item.ToldItem.{ToldItem}
use Rattle.rl_ways.specs.declared.origin.Origin.{Origin}
use Rattle.rl_why.specs.Shown.{origin_at}

-- Whether all places of the list are below `m`.
abbrev pub all_below : ℕ → List ℕ → Bool
all_below m [] = true
all_below m (p ∷ ps) = nat_lt p m && all_below m ps

-- Whether none is.
abbrev pub none_below : ℕ → List ℕ → Bool
none_below m [] = true
none_below m (p ∷ ps) = nat_le m p && none_below m ps

-- The number of the innermost loop of the tree whose body has all the places, or `outer` if there is none. The first place of
-- the tree has the number `b`, and the tree itself, as a node, the number `n`.
abbrev pub loop_over : Tree → ℕ → ℕ → List ℕ → Option ℕ → Option ℕ
loop_over empty b n ps outer = outer
loop_over (one set) b n ps outer = outer
loop_over (guard g) b n ps outer = outer
loop_over (both e f) b n ps outer =
    if all_below (b + places e) ps then loop_over e b (suc n) ps outer
    else if none_below (b + places e) ps then loop_over f (b + places e) (suc n + size e) ps outer
    else outer
loop_over (either e f) b n ps outer =
    if all_below (b + places e) ps then loop_over e b (suc n) ps outer
    else if none_below (b + places e) ps then loop_over f (b + places e) (suc n + size e) ps outer
    else outer
loop_over (many e greedy) b n ps outer = loop_over e b (suc n) ps (Some n)

-- The place in front of the list, if there is one.
abbrev pub with_place : Option ℕ → List ℕ → List ℕ
with_place None ps = ps
with_place (Some p) ps = p ∷ ps

-- The places of a way.
abbrev pub taking : List ToldItem → List ℕ
taking [] = []
taking (m ∷ l) = with_place m.place (taking l)

-- The origin of the innermost loop whose body has all places of the way, if there is such a loop. `nodes` has the origins of
-- the nodes.
abbrev pub loop_of : Tree → List Origin → List ToldItem → Option Origin
loop_of t nodes l = option_map (origin_at nodes) (loop_over t 0 0 (taking l) None)
