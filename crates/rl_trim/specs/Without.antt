-- Trees without some of their branches. The places of a tree are its leaves that match one code each, numbered from 0 from
-- left to right.
use Rattle.std.specs.Prelude.{◌≡◌, Bool, true, false, ◌&&◌, ◌||◌, List, ◌++◌, replicate}
use Rattle.rl_syntax.specs.Tree.{Tree, empty, one, guard, both, either, many, places}

-- Whether a tree may span the empty text. A guard counts as spanning it, whatever the guard demands.
abbrev pub may_be_empty : Tree → Bool
may_be_empty empty = true
may_be_empty (one set) = false
may_be_empty (guard g) = true
may_be_empty (both e f) = may_be_empty e && may_be_empty f
may_be_empty (either e f) = may_be_empty e || may_be_empty f
may_be_empty (many e greedy) = true

-- Holds if the first tree is the second without some of its branches, that is, without one side of some `either` nodes, none
-- of which may span the empty text. The list has one flag for each place of the second tree, from left to right, which says
-- whether the place is kept. It may also be that nothing is left out.
pub data Without : List Bool → Tree → Tree → Type 0 where
  whole : {t : Tree} → Without (replicate (places t) true) t t
  in_both : {k m : List Bool} {a b e f : Tree} → Without k a b → Without m e f → Without (k ++ m) (both a e) (both b f)
  in_either : {k m : List Bool} {a b e f : Tree} → Without k a b → Without m e f → Without (k ++ m) (either a e) (either b f)
  in_many : {k : List Bool} {a b : Tree} {greedy : Bool} → Without k a b → Without k (many a greedy) (many b greedy)
  first_goes : {k : List Bool} {s e f : Tree} → may_be_empty e ≡ false → Without k s f → Without (replicate (places e) false ++ k) s (either e f)
  second_goes : {k : List Bool} {s e f : Tree} → may_be_empty f ≡ false → Without k s e → Without (k ++ replicate (places f) false) s (either e f)
