-- The sizes of sequences and of choices in patterns.
use Rattle.std.proofs.Common.{◌≡◌, ℕ, suc, List, [], ◌∷◌, length, map, refl, ap, ◌∙◌}
use Rattle.std.specs.List.{sum_by}
use Rattle.std.proofs.lemmas.List.Recursion.{is_sum_by}
use Rattle.rl_syntax.specs.declared.pat.Pat.{Pat}
use Rattle.rl_syntax.specs.declared.pat.Branch.{Branch}
use Rattle.rl_syntax.specs.PatTree.{pat_of, items_of, branches_of}
use Rattle.rl_syntax.specs.Tree.{Tree, size}
use Rattle.rl_syntax.specs.Lowering.{in_turn, one_of, lowered, items_lowered, branches_lowered}
use Rattle.rl_syntax.specs.Counting.{branch_tree, joined_nodes}
use Rattle.rl_syntax.proofs.TreeSizes.{all_nodes, size-in_turn, size-one_of}

abbrev pub part_nodes : Pat → ℕ
part_nodes p = size (lowered (pat_of p))

abbrev pub branch_nodes : Branch → ℕ
branch_nodes b = size (lowered (branch_tree b).1)

abbrev pub item_trees : List Pat → List Tree
item_trees ps = items_lowered (items_of (map pat_of ps))

abbrev pub branch_trees : List Branch → List Tree
branch_trees bs = branches_lowered (branches_of (map branch_tree bs))

length-items : (ps : List Pat) → length (item_trees ps) ≡ length ps
length-items [] = refl
length-items (p ∷ ps) = ap suc (length-items ps)

nodes-items : (ps : List Pat) → all_nodes (item_trees ps) ≡ sum_by part_nodes ps
nodes-items = is_sum_by (λ ps. all_nodes (item_trees ps)) part_nodes refl (λ _ _. refl)

length-branches : (bs : List Branch) → length (branch_trees bs) ≡ length bs
length-branches [] = refl
length-branches (b ∷ bs) = ap suc (length-branches bs)

nodes-branches : (bs : List Branch) → all_nodes (branch_trees bs) ≡ sum_by branch_nodes bs
nodes-branches = is_sum_by (λ bs. all_nodes (branch_trees bs)) branch_nodes refl (λ _ _. refl)

-- The size of a sequence, from the sizes of its items.
pub size-items : (ps : List Pat) → size (in_turn (items_lowered (items_of (map pat_of ps)))) ≡ joined_nodes (length ps) (sum_by part_nodes ps)
size-items ps =
    size-in_turn (item_trees ps) ∙ ap (λ k. joined_nodes k (all_nodes (item_trees ps))) (length-items ps) ∙ ap (joined_nodes (length ps)) (nodes-items ps)

-- The size of a choice, from the sizes of its branches.
pub size-branches : (bs : List Branch) → size (one_of (branches_lowered (branches_of (map branch_tree bs)))) ≡ joined_nodes (length bs) (sum_by branch_nodes bs)
size-branches bs =
    size-one_of (branch_trees bs) ∙ ap (λ k. joined_nodes k (all_nodes (branch_trees bs))) (length-branches bs) ∙ ap (joined_nodes (length bs)) (nodes-branches bs)
