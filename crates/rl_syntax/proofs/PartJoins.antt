-- Joining the trees of items and of branches one by one, from the last one on.
use Rattle.std.proofs.Common.{◌≡◌, List, [], ◌∷◌, ◌++◌, refl, sym, ap, ◌∙◌}
use Rattle.rl_syntax.specs.declared.span.Span.{Span}
use Rattle.rl_syntax.specs.declared.pat.Pat.{Pat}
use Rattle.rl_syntax.specs.declared.pat.Branch.{Branch}
use Rattle.rl_syntax.specs.declared.pat.Pat.TheFolds.{fold_out-Branch}
use Rattle.rl_syntax.specs.PatTree.{PatTree, pat_of, layer_of, branch_of}
use Rattle.rl_syntax.specs.Tree.{Tree}
use Rattle.rl_syntax.specs.Lowering.{in_turn, one_of, lowered}
use Rattle.rl_syntax.specs.Counting.{branch_tree}
use Rattle.rl_syntax.proofs.PartSizes.{item_trees, branch_trees}
use Rattle.rl_syntax.proofs.TreeJoins.{in_turn-last, one_of-last}

item_trees-last : (qs : List Pat) (p : Pat) (us : List Tree) → item_trees (qs ++ p ∷ []) ++ us ≡ item_trees qs ++ lowered (pat_of p) ∷ us
item_trees-last [] p us = refl
item_trees-last (q ∷ qs) p us = ap (λ ts. lowered (pat_of q) ∷ ts) (item_trees-last qs p us)

branch_trees-last : (cs : List Branch) (b : Branch) (us : List Tree) → branch_trees (cs ++ b ∷ []) ++ us ≡ branch_trees cs ++ lowered (branch_tree b).1 ∷ us
branch_trees-last [] b us = refl
branch_trees-last (c ∷ cs) b us = ap (λ ts. lowered (branch_tree c).1 ∷ ts) (branch_trees-last cs b us)

-- The last item, joined with what follows it.
pub in_turn-item : (ps qs : List Pat) (p : Pat) (r : Tree) (us : List Tree) (all : Tree) → ps ≡ qs ++ p ∷ [] → r ≡ in_turn (lowered (pat_of p) ∷ us)
    → in_turn (item_trees ps ++ us) ≡ all → in_turn (item_trees qs ++ r ∷ []) ≡ all
in_turn-item ps qs p r us all e f g =
    ap (λ x. in_turn (item_trees qs ++ x ∷ [])) f
    ∙ in_turn-last (item_trees qs) (lowered (pat_of p)) us
    ∙ sym (ap in_turn (item_trees-last qs p us))
    ∙ sym (ap (λ x. in_turn (item_trees x ++ us)) e)
    ∙ g

-- The last branch, joined with those after it.
pub one_of-branch : (bs cs : List Branch) (b : Branch) (r : Tree) (us : List Tree) (all : Tree) → bs ≡ cs ++ b ∷ [] → r ≡ one_of (lowered (branch_tree b).1 ∷ us)
    → one_of (branch_trees bs ++ us) ≡ all → one_of (branch_trees cs ++ r ∷ []) ≡ all
one_of-branch bs cs b r us all e f g =
    ap (λ x. one_of (branch_trees cs ++ x ∷ [])) f
    ∙ one_of-last (branch_trees cs) (lowered (branch_tree b).1) us
    ∙ sym (ap one_of (branch_trees-last cs b us))
    ∙ sym (ap (λ x. one_of (branch_trees x ++ us)) e)
    ∙ g

-- The tree of a branch is the tree of its body.
pub branch-body : (b : Branch) → pat_of b.body ≡ (branch_tree b).1
branch-body b = sym (ap (λ x. x.1) (fold_out-Branch PatTree (Span × PatTree) layer_of branch_of b))
