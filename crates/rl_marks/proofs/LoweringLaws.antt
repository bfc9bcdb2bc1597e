-- Without its marks a pattern's marked tree is its tree.
use Rattle.std.proofs.Common.{◌≡◌, ℕ, zero, suc, ◌+◌, ◌-◌, Bool, true, false, List, [], ◌∷◌, ◌++◌, map, Option, None, Some, replicate, refl, ap, ap₂, ◌∙◌}
use Rattle.rl_syntax.specs.Tree.{Tree}
use Rattle.rl_syntax.specs.Tree as Plain
use Rattle.rl_syntax.specs.Lowering as Lowering
use Rattle.rl_syntax.specs.Lowering.{lowered}
use Rattle.rl_syntax.specs.PatTree.{PatTree, PatTrees, BranchTrees, nothing, class, seq, choice, repeat, group, anchor, boundary, look, outside, no_items, item, no_branches, branch}
use Rattle.rl_marks.specs.Marked.{Marked, plain}
use Rattle.rl_marks.specs.Marking.{in_turn, in_rounds, one_of, option_of, options, tail_of, times, groups_in, marked, items_marked, branches_marked}
use Rattle.rl_marks.proofs.Following.{map-join}

plain-in_turn : (l : List Marked) → plain (in_turn l) ≡ Lowering.in_turn (map plain l)
plain-in_turn [] = refl
plain-in_turn (t ∷ []) = refl
plain-in_turn (t ∷ u ∷ l) = ap (Plain.both (plain t)) (plain-in_turn (u ∷ l))

plain-one_of : (l : List Marked) → plain (one_of l) ≡ Lowering.one_of (map plain l)
plain-one_of [] = refl
plain-one_of (t ∷ []) = refl
plain-one_of (t ∷ u ∷ l) = ap (Plain.either (plain t)) (plain-one_of (u ∷ l))

plain-in_rounds : (t : Marked) (l : List Marked) → plain (in_rounds t l) ≡ Lowering.in_turn (plain t ∷ map plain l)
plain-in_rounds t [] = refl
plain-in_rounds t (u ∷ l) = ap (Plain.both (plain t)) (plain-in_turn (u ∷ l))

plain-option : (greedy : Bool) (t : Marked) → plain (option_of greedy t) ≡ Lowering.option_of greedy (plain t)
plain-option true t = refl
plain-option false t = refl

plain-options : (greedy : Bool) (t : Marked) (k : ℕ) → map plain (options greedy t k) ≡ Lowering.options greedy (plain t) k
plain-options greedy t zero = refl
plain-options greedy t (suc k) =
    ap (λ x. x ∷ []) (plain-option greedy (in_rounds t (options greedy t k))
    ∙ ap (Lowering.option_of greedy) (plain-in_rounds t (options greedy t k) ∙ ap (λ l. Lowering.in_turn (plain t ∷ l)) (plain-options greedy t k)))

plain-tail : (greedy : Bool) (t : Marked) (least : ℕ) (most : Option ℕ) → map plain (tail_of greedy t least most) ≡ Lowering.tail_of greedy (plain t) least most
plain-tail greedy t least None = refl
plain-tail greedy t least (Some most) = plain-options greedy t (most - least)

plain-copies : (t : Marked) (k : ℕ) → map plain (replicate k t) ≡ replicate k (plain t)
plain-copies t zero = refl
plain-copies t (suc k) = ap (λ l. plain t ∷ l) (plain-copies t k)

plain-times : (least : ℕ) (most : Option ℕ) (greedy : Bool) (t : Marked) → plain (times least most greedy t) ≡ Lowering.times least most greedy (plain t)
plain-times least most greedy t =
    plain-in_turn (replicate least t ++ tail_of greedy t least most)
    ∙ ap Lowering.in_turn (map-join plain (replicate least t) (tail_of greedy t least most) ∙ ap₂ (λ a b. a ++ b) (plain-copies t least) (plain-tail greedy t least most))

mutual
  pub plain-marked : (p : PatTree) (n : ℕ) → plain (marked p n) ≡ lowered p
  plain-marked (nothing span) n = refl
  plain-marked (class span set) n = refl
  plain-marked (seq span ps) n = plain-in_turn (items_marked ps n) ∙ ap Lowering.in_turn (plain-items ps n)
  plain-marked (choice span bs) n = plain-one_of (branches_marked bs n) ∙ ap Lowering.one_of (plain-branches bs n)
  plain-marked (repeat span m least most greedy p) n = plain-times least most greedy (marked p n) ∙ ap (Lowering.times least most greedy) (plain-marked p n)
  plain-marked (group span true p) n = plain-marked p (suc n)
  plain-marked (group span false p) n = plain-marked p n
  plain-marked (anchor span kind multiline) n = refl
  plain-marked (boundary span negated ascii) n = refl
  plain-marked (look span behind negated ranges) n = refl
  plain-marked (outside span what) n = refl

  plain-items : (ps : PatTrees) (n : ℕ) → map plain (items_marked ps n) ≡ Lowering.items_lowered ps
  plain-items no_items n = refl
  plain-items (item p ps) n = ap₂ (λ t l. t ∷ l) (plain-marked p n) (plain-items ps (n + groups_in p))

  plain-branches : (bs : BranchTrees) (n : ℕ) → map plain (branches_marked bs n) ≡ Lowering.branches_lowered bs
  plain-branches no_branches n = refl
  plain-branches (branch span p bs) n = ap₂ (λ t l. t ∷ l) (plain-marked p n) (plain-branches bs (n + groups_in p))
