-- The names of one more node or branch.
use Rattle.std.proofs.Common.{◌≡◌, ℕ, ◌+◌, ◌<◌, List, length, drop, map, ◌++◌, Result, sym, ap, ◌∙◌, append_assoc}
use Rattle.std.proofs.lemmas.List.{at_drop_more}
use Rattle.std.specs.Prelude.{slice_index_or, IfOk}
use Rattle.rl_pattern.specs.Tree as t
use Rattle.rl_pattern.specs.declared.tree.SyntaxNode.{SyntaxNode}
use Rattle.rl_pattern.specs.declared.tree.Branch.{Branch}
use Rattle.rl_pattern.specs.declared.names.Called.{Called as Read}
use Rattle.rl_pattern.specs.internal.Views.{node_of, branch_of}
use Rattle.rl_pattern.specs.internal.Judged.{called_of}
use Rattle.rl_pattern.specs.Found.{Called, kind_names, node_names, nodes_names, branches_names}
use Rattle.rl_pattern.proofs.Layers.{node_of-repeat, node_of-group, branch_of-fields}
use Rattle.rl_pattern.proofs.LeafLaws.{answered}
use Rattle.rl_pattern.proofs.names.+node_names.Goals as goal

nodes_more : (ps : List SyntaxNode) (i : ℕ) (d : SyntaxNode) (all more total : List Called) → i < length ps → more ≡ all ++ node_names (node_of (slice_index_or ps i d)) → all ++ nodes_names (t.nodes (map node_of (drop i ps))) ≡ total → more ++ nodes_names (t.nodes (map node_of (drop (i + 1) ps))) ≡ total
nodes_more ps i d all more total l e f =
    let rest = nodes_names (t.nodes (map node_of (drop (i + 1) ps))) in
    ap (λ ns. ns ++ rest) e
    ∙ append_assoc all (node_names (node_of (slice_index_or ps i d))) rest
    ∙ ap (λ ns. all ++ ns) (sym (at_drop_more (λ xs. nodes_names (t.nodes (map node_of xs))) ps i d l))
    ∙ f

pub nodes_names-loop-node-preserved : goal.nodes_names-loop-node-preserved
nodes_names-loop-node-preserved measure c =
    nodes_more c.args.nodes.now c.loop-node.node-index c.node-item.result (map called_of c.loop-node.all) (map called_of c.in_ok-all.all) _ c.loop-node-test.true (c.in_ok-all.ensures ∙ ap (λ n. map called_of c.loop-node.all ++ node_names (node_of n)) c.node-item.is) c.loop-node.invariant

branches_more : (bs : List Branch) (i : ℕ) (d : Branch) (all more total : List Called) → i < length bs → more ≡ all ++ node_names (branch_of (slice_index_or bs i d)).body → all ++ branches_names (t.branches (map branch_of (drop i bs))) ≡ total → more ++ branches_names (t.branches (map branch_of (drop (i + 1) bs))) ≡ total
branches_more bs i d all more total l e f =
    let rest = branches_names (t.branches (map branch_of (drop (i + 1) bs))) in
    ap (λ ns. ns ++ rest) e
    ∙ append_assoc all (node_names (branch_of (slice_index_or bs i d)).body) rest
    ∙ ap (λ ns. all ++ ns) (sym (at_drop_more (λ xs. branches_names (t.branches (map branch_of xs))) bs i d l))
    ∙ f

pub branches_names-loop-branch-preserved : goal.branches_names-loop-branch-preserved
branches_names-loop-branch-preserved measure c =
    branches_more c.args.branches.now c.loop-branch.branch-index c.branch-item.result (map called_of c.loop-branch.all) (map called_of c.in_ok-all.all) _ c.loop-branch-test.true (c.in_ok-all.ensures ∙ ap (λ b. map called_of c.loop-branch.all ++ node_names b.body) (sym (branch_of-fields c.branch-item.result)) ∙ ap (λ b. map called_of c.loop-branch.all ++ node_names (branch_of b).body) c.branch-item.is) c.loop-branch.invariant

-- The resulting names, stated in another way.
other_names : {E : Type 0} (r : Result (List Read) E) (p q : List Called) → p ≡ q → IfOk r (λ x. map called_of x ≡ p) → IfOk r (λ x. map called_of x ≡ q)
other_names r p q e h = answered r (λ x. map called_of x ≡ p) (λ x. map called_of x ≡ q) (λ x k. k ∙ e) h

pub node_names-returns-in-Repeat : goal.node_names-returns-in-Repeat
node_names-returns-in-Repeat measure c =
    let before = map called_of c.args.found in
    let r = c.in-Repeat in
    other_names c.node_names.result _ (before ++ node_names (node_of c.args.node.now))
    (ap (λ n. before ++ node_names (node_of n)) c.deref.ensures
    ∙ ap (λ n. before ++ node_names n) (sym (node_of-repeat r.field-0 r.field-1 r.field-2 r.field-3 r.body))
    ∙ ap (λ n. before ++ node_names (node_of n)) (sym r.is))
    c.node_names.ensures

pub node_names-returns-in_ok-found-in-Group : goal.node_names-returns-in_ok-found-in-Group
node_names-returns-in_ok-found-in-Group measure c =
    let before = map called_of c.args.found in
    let r = c.in-Group in
    other_names c.node_names-in-Group.result _ (before ++ node_names (node_of c.args.node.now))
    (ap (λ n. map called_of c.in_ok-found-in-Group.found ++ node_names (node_of n)) c.deref-in-Group.ensures
    ∙ ap (λ ns. ns ++ node_names (node_of r.body.value)) c.in_ok-found-in-Group.ensures
    ∙ append_assoc before (kind_names r.span.from r.kind) (node_names (node_of r.body.value))
    ∙ ap (λ n. before ++ node_names n) (sym (node_of-group r.span r.kind r.body))
    ∙ ap (λ n. before ++ node_names (node_of n)) (sym r.is))
    c.node_names-in-Group.ensures
