-- Steps of lists of tests, one behind another.
use Rattle.std.proofs.Common.{◌≡◌, ◌+◌, suc, Bool, true, false, ◌||◌, List, [], ◌∷◌, ◌++◌, refl, ap, sym, true≢false, arith}
use Rattle.rl_syntax.specs.Cost.{up_to_hit, has_hit}

pub has_hit_of_both : (l r : List Bool) → has_hit (l ++ r) ≡ (has_hit l || has_hit r)
has_hit_of_both [] r = refl
has_hit_of_both (true ∷ l) r = refl
has_hit_of_both (false ∷ l) r = has_hit_of_both l r

pub steps_stop : (l r : List Bool) → has_hit l ≡ true → up_to_hit (l ++ r) ≡ up_to_hit l
steps_stop [] r h = absurd (true≢false (sym h))
steps_stop (true ∷ l) r h = refl
steps_stop (false ∷ l) r h = ap suc (steps_stop l r h)

pub steps_go_on : (l r : List Bool) → has_hit l ≡ false → up_to_hit (l ++ r) ≡ up_to_hit l + up_to_hit r
steps_go_on [] r h = omega arith
steps_go_on (true ∷ l) r h = absurd (true≢false h)
steps_go_on (false ∷ l) r h = let e = steps_go_on l r h in omega (arith, e)
