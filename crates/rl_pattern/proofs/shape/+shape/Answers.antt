-- The patterns of nodes and branches, with one more at a time.
use Rattle.std.proofs.Common.{◌≡◌, ℕ, ◌+◌, ◌<◌, ◌==◌, arith, List, [], ◌∷◌, ◌++◌, length, drop, map, Result, refl, sym, ap, ◌∙◌, append_assoc}
use Rattle.std.proofs.lemmas.List.{at_drop_more, map-append}
use Rattle.std.specs.Prelude.{slice_index_or, IfOk}
use Rattle.rl_syntax.specs.declared.pat.Pat.{Pat}
use Rattle.rl_syntax.specs.PatTree as s
use Rattle.rl_syntax.specs.PatTree.{pat_of}
use Rattle.rl_syntax.specs.Counting.{branch_tree}
use Rattle.rl_pattern.specs.Tree as t
use Rattle.rl_pattern.specs.internal.Views.{node_of, branch_of}
use Rattle.rl_pattern.specs.Shape.{shape_in, shapes_in, branch_shapes_in}
use Rattle.rl_pattern.specs.Found.{is_end}
use Rattle.rl_pattern.specs.Profile.{Profile, for_item}
use Rattle.rl_pattern.proofs.Layers.{branch_of-fields}
use Rattle.rl_pattern.proofs.LeafLaws.{answered}
use Rattle.rl_pattern.proofs.Looks.{ends_at}
use Rattle.rl_pattern.specs.declared.tree.SyntaxNode.{SyntaxNode}
use Rattle.rl_ranges.specs.declared.universe.Universe.{Universe}
use Rattle.rl_pattern.proofs.shape.+shape.Goals as goal

-- One more item before what is left.
one_more : {A B C : Type 0} (f : A → C) (g : List B → List C) (ns : List B) (i : ℕ) (d : B) (done next : List A) (x : A) (y : C) (total : List C) → i < length ns → next ≡ done ++ x ∷ [] → f x ≡ y → g (slice_index_or ns i d ∷ drop (i + 1) ns) ≡ y ∷ g (drop (i + 1) ns) → map f done ++ g (drop i ns) ≡ total → map f next ++ g (drop (i + 1) ns) ≡ total
one_more f g ns i d done next x y total l e h k z =
    ap (λ zs. map f zs ++ g (drop (i + 1) ns)) e
    ∙ ap (λ zs. zs ++ g (drop (i + 1) ns)) (map-append f done (x ∷ []))
    ∙ append_assoc (map f done) (f x ∷ []) (g (drop (i + 1) ns))
    ∙ ap (λ v. map f done ++ v ∷ g (drop (i + 1) ns)) h
    ∙ ap (λ zs. map f done ++ zs) (sym (at_drop_more g ns i d l ∙ k))
    ∙ z

pub branch_pats-loop-branch-preserved : goal.branch_pats-loop-branch-preserved
branch_pats-loop-branch-preserved measure c =
    let here = slice_index_or c.args.branches.now c.loop-branch.branch-index c.branch-item.result in
    one_more branch_tree (λ xs. branch_shapes_in c.args.profile c.args.universe (t.branches (map branch_of xs))) c.args.branches.now c.loop-branch.branch-index c.branch-item.result c.loop-branch.found c.push.new.self c.branch_at.result ((branch_of here).place, shape_in c.args.profile c.args.universe (branch_of here).body) _
    c.loop-branch-test.true c.in-Ok-push.ensures.pushed
    (c.branch_at.ensures
    ∙ ap (λ p. (c.branch-item.result.place, p)) c.in-Ok.ensures
    ∙ ap (λ b. (b.place, shape_in c.args.profile c.args.universe b.body)) (sym (branch_of-fields c.branch-item.result))
    ∙ ap (λ b. ((branch_of b).place, shape_in c.args.profile c.args.universe (branch_of b).body)) c.branch-item.is)
    refl c.loop-branch.invariant

-- The resulting pattern, stated in another way.
other_word : {E : Type 0} (r : Result Pat E) (p q : s.PatTree) → p ≡ q → IfOk r (λ x. pat_of x ≡ p) → IfOk r (λ x. pat_of x ≡ q)
other_word r p q e h = answered r (λ x. pat_of x ≡ p) (λ x. pat_of x ≡ q) (λ x k. k ∙ e) h

last_shape : (r own : Profile) (u : Universe) (ns : List SyntaxNode) (i : ℕ) (d : SyntaxNode) → i < length ns → own ≡ for_item r (i + 1 == length ns) → shape_in own u (node_of (slice_index_or ns i d)) ≡ shape_in (for_item r (is_end (t.nodes (map node_of (drop (i + 1) ns))))) u (node_of (slice_index_or ns i d))
last_shape r own u ns i d l o = ap (λ q. shape_in q u (node_of (slice_index_or ns i d))) (o ∙ ap (for_item r) (sym (ends_at node_of ns (i + 1) (omega (arith, l)))))

pub item_pats-loop-place-preserved : goal.item_pats-loop-place-preserved
item_pats-loop-place-preserved measure c =
    let u = c.args.universe in
    let ns = c.args.nodes.now in
    let i = c.loop-place.place in
    let this = slice_index_or ns i c.index-nodes-place.result in
    one_more pat_of (λ xs. shapes_in c.args.profile u (t.nodes (map node_of xs))) ns i c.index-nodes-place.result c.loop-place.items c.push.new.self c.in-Ok.item (shape_in (for_item c.args.profile (is_end (t.nodes (map node_of (drop (i + 1) ns))))) u (node_of this)) _
    c.loop-place-test.true c.in-Ok-push.ensures.pushed
    (c.in-Ok.ensures ∙ ap (λ n. shape_in c.for_item-own.result u (node_of n)) c.index-nodes-place.is ∙ last_shape c.args.profile c.for_item-own.result u ns i c.index-nodes-place.result c.loop-place-test.true c.for_item-own.ensures)
    refl c.loop-place.invariant
