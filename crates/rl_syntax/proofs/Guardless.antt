-- A tree that is built from trees without guards has no guard.
use Rattle.std.proofs.Common.{ℕ, zero, suc, ◌-◌, Bool, true, false, List, [], ◌∷◌, ◌++◌, replicate, Option, Some, None}
use Rattle.rl_syntax.specs.Tree.{Tree}
use Rattle.rl_syntax.specs.Lowering.{in_turn, one_of, option_of, options, tail_of, times}
use Rattle.rl_syntax.specs.SameSpans.{Unguarded}

abbrev pub AllUnguarded : List Tree → Type 0
AllUnguarded [] = Unit {0}
AllUnguarded (t ∷ ts) = Unguarded t × AllUnguarded ts

pub turn_unguarded : (ts : List Tree) → AllUnguarded ts → Unguarded (in_turn ts)
turn_unguarded [] h = tt
turn_unguarded (t ∷ []) h = h.0
turn_unguarded (t ∷ t2 ∷ ts) (h, hs) = (h, turn_unguarded (t2 ∷ ts) hs)

pub one_unguarded : (ts : List Tree) → AllUnguarded ts → Unguarded (one_of ts)
one_unguarded [] h = tt
one_unguarded (t ∷ []) h = h.0
one_unguarded (t ∷ t2 ∷ ts) (h, hs) = (h, one_unguarded (t2 ∷ ts) hs)

join_unguarded : (ss ts : List Tree) → AllUnguarded ss → AllUnguarded ts → AllUnguarded (ss ++ ts)
join_unguarded [] ts h k = k
join_unguarded (s ∷ ss) ts (h, hs) k = (h, join_unguarded ss ts hs k)

copies_unguarded : (n : ℕ) (t : Tree) → Unguarded t → AllUnguarded (replicate n t)
copies_unguarded zero t h = tt
copies_unguarded (suc n) t h = (h, copies_unguarded n t h)

option_unguarded : (g : Bool) (t : Tree) → Unguarded t → Unguarded (option_of g t)
option_unguarded true t h = (h, tt)
option_unguarded false t h = (tt, h)

options_unguarded : (g : Bool) (t : Tree) (k : ℕ) → Unguarded t → AllUnguarded (options g t k)
options_unguarded g t zero h = tt
options_unguarded g t (suc k) h = (option_unguarded g (in_turn (t ∷ options g t k)) (turn_unguarded (t ∷ options g t k) (h, options_unguarded g t k h)), tt)

tail_unguarded : (g : Bool) (t : Tree) (least : ℕ) (most : Option ℕ) → Unguarded t → AllUnguarded (tail_of g t least most)
tail_unguarded g t least None h = (h, tt)
tail_unguarded g t least (Some most) h = options_unguarded g t (most - least) h

pub times_unguarded : (least : ℕ) (most : Option ℕ) (g : Bool) (t : Tree) → Unguarded t → Unguarded (times least most g t)
times_unguarded least most g t h = turn_unguarded (replicate least t ++ tail_of g t least most) (join_unguarded (replicate least t) (tail_of g t least most) (copies_unguarded least t h) (tail_unguarded g t least most h))
