use Rattle.std.proofs.Common.{◌≡◌, ◌+◌, if◌then◌else◌, ◌∷◌, ◌++◌, [], IfOk, drop, map, refl, sym, ap, ◌∙◌, subst}
use Rattle.rl_syntax.specs.declared.span.Span.{Span}
use Rattle.rl_syntax.specs.declared.pat.Pat.{Pat-F}
use Rattle.rl_syntax.specs.declared.pat.Pat.TheVariants as V
use Rattle.rl_syntax.specs.declared.pat.Pat.TheFolds.{fold-roll-Pat}
use Rattle.rl_syntax.specs.PatTree.{PatTree, repeat, group, pat_of, layer_of, branch_of}
use Rattle.rl_syntax.specs.Counting.{branch_tree}
use Rattle.rl_pattern.specs.Cut.{remaining}
use Rattle.rl_pattern.specs.Suggested.{among, no_span}
use Rattle.rl_rewrite.specs.internal.LeftLists.{all_remaining, some_remaining}
use Rattle.rl_rewrite.proofs.PartTrees.{class-tree, look-tree, repeat-tree, group-tree, leaf_left, seq_left, choice_left}
use Rattle.rl_rewrite.proofs.Rounds.{from_place, trees_from, one_more, none_more, one_seen}
use Rattle.rl_rewrite.proofs.leaving.+leaving.Goals as goal
use Rattle.rl_rewrite.proofs.leaving.+leaving.Goals.{put_branches_left-then-not-among+in_ok-body+in_ok-push, put_branches_left-else-not-among}

pub left_part-returns-in-Nothing : goal.left_part-returns-in-Nothing
left_part-returns-in-Nothing t c =
    let s = c.in-Nothing.span in
    leaf_left (among c.args.dropped.now) (V.Nothing s) _ c.args.part.now c.in-Nothing.is (ap pat_of (sym (V.rolls-Nothing s)) ∙ fold-roll-Pat PatTree (Span × PatTree) layer_of branch_of (Pat-F.Nothing s)) refl

pub left_part-returns-in-Anchor : goal.left_part-returns-in-Anchor
left_part-returns-in-Anchor t c =
    let s = c.in-Anchor.span in
    let k = c.in-Anchor.kind in
    let m = c.in-Anchor.multiline in
    leaf_left (among c.args.dropped.now) (V.Anchor s k m) _ c.args.part.now c.in-Anchor.is (ap pat_of (sym (V.rolls-Anchor s k m)) ∙ fold-roll-Pat PatTree (Span × PatTree) layer_of branch_of (Pat-F.Anchor s k m)) refl

pub left_part-returns-in-Boundary : goal.left_part-returns-in-Boundary
left_part-returns-in-Boundary t c =
    let s = c.in-Boundary.span in
    let n = c.in-Boundary.negated in
    let a = c.in-Boundary.ascii in
    leaf_left (among c.args.dropped.now) (V.Boundary s n a) _ c.args.part.now c.in-Boundary.is (ap pat_of (sym (V.rolls-Boundary s n a)) ∙ fold-roll-Pat PatTree (Span × PatTree) layer_of branch_of (Pat-F.Boundary s n a)) refl

pub left_part-returns-in-Outside : goal.left_part-returns-in-Outside
left_part-returns-in-Outside t c =
    let s = c.in-Outside.span in
    let w = c.in-Outside.what in
    leaf_left (among c.args.dropped.now) (V.Outside s w) _ c.args.part.now c.in-Outside.is (ap pat_of (sym (V.rolls-Outside s w)) ∙ fold-roll-Pat PatTree (Span × PatTree) layer_of branch_of (Pat-F.Outside s w)) refl

pub left_part-returns-in_ok-set-in-Class : goal.left_part-returns-in_ok-set-in-Class
left_part-returns-in_ok-set-in-Class t c =
    let s = c.in-Class.span in
    ap (λ codes. pat_of (V.Class s codes)) c.in_ok-set-in-Class.ensures ∙ leaf_left (among c.args.dropped.now) (V.Class s c.in-Class.set) _ c.args.part.now c.in-Class.is (class-tree s c.in-Class.set) refl

pub left_part-returns-in_ok-set-in-Look : goal.left_part-returns-in_ok-set-in-Look
left_part-returns-in_ok-set-in-Look t c =
    let l = c.in-Look in
    ap (λ codes. pat_of (V.Look l.span l.behind l.negated codes)) c.in_ok-set-in-Look.ensures ∙ leaf_left (among c.args.dropped.now) (V.Look l.span l.behind l.negated l.set) _ c.args.part.now l.is (look-tree l.span l.behind l.negated l.set) refl

pub left_part-returns-in_ok-body-in-Repeat : goal.left_part-returns-in_ok-body-in-Repeat
left_part-returns-in_ok-body-in-Repeat t c =
    let gone = among c.args.dropped.now in
    let r = c.in-Repeat in
    let inner : pat_of c.in_ok-body-in-Repeat.body ≡ remaining gone no_span (pat_of r.body.value) = c.in_ok-body-in-Repeat.ensures ∙ ap (λ b. remaining gone no_span (pat_of b)) c.deref.ensures in
    subst (λ x. IfOk c.repeat_of.result (λ found. pat_of found ≡ x))
    (ap (repeat r.span r.mark r.min r.max r.greedy) inner ∙ sym (ap (remaining gone no_span) (ap pat_of r.is ∙ repeat-tree r.span r.mark r.min r.max r.greedy r.body)))
    c.repeat_of.ensures

pub left_part-returns-in_ok-body-in-Group : goal.left_part-returns-in_ok-body-in-Group
left_part-returns-in_ok-body-in-Group t c =
    let gone = among c.args.dropped.now in
    let g = c.in-Group in
    let inner : pat_of c.in_ok-body-in-Group.body ≡ remaining gone no_span (pat_of g.body.value) = c.in_ok-body-in-Group.ensures ∙ ap (λ b. remaining gone no_span (pat_of b)) c.deref-in-Group.ensures in
    subst (λ x. IfOk c.group_of.result (λ found. pat_of found ≡ x))
    (ap (group g.span g.captures) inner ∙ sym (ap (remaining gone no_span) (ap pat_of g.is ∙ group-tree g.span g.captures g.body)))
    c.group_of.ensures

pub left_part-returns-in-Ok : goal.left_part-returns-in-Ok
left_part-returns-in-Ok t c =
    let gone = among c.args.dropped.now in
    seq_left gone c.in-Seq.span c.in-Seq.items c.put_items_left.new.found c.args.part.now c.in-Seq.is
    (c.in-Ok.ensures ∙ ap (λ f. map pat_of f ++ all_remaining gone (map pat_of c.as_slice.result.now)) c.new-left.ensures ∙ ap (λ ps. all_remaining gone (map pat_of ps)) c.as_slice.ensures)

pub left_part-returns-in-Ok-put_branches_left : goal.left_part-returns-in-Ok-put_branches_left
left_part-returns-in-Ok-put_branches_left t c =
    let gone = among c.args.dropped.now in
    choice_left gone c.in-Choice.span c.in-Choice.branches c.put_branches_left.new.found c.args.part.now c.choice_of.result c.in-Choice.is
    (c.in-Ok-put_branches_left.ensures ∙ ap (λ f. map branch_tree f ++ some_remaining gone (map branch_tree c.as_slice-in-Choice.result.now)) c.new-left-in-Choice.ensures ∙ ap (λ bs. some_remaining gone (map branch_tree bs)) c.as_slice-in-Choice.ensures)
    c.choice_of.ensures

pub put_items_left-loop-item-preserved : goal.put_items_left-loop-item-preserved
put_items_left-loop-item-preserved t c =
    let gone = among c.args.dropped.now in
    let one = remaining gone no_span (pat_of c.item-item.result) in
    one_more (map pat_of c.loop-item.found) (map pat_of c.push.new.self) (one ∷ []) (all_remaining gone (map pat_of (drop (c.loop-item.item-index + 1) c.args.items.now))) _ _
    (one_seen pat_of c.loop-item.found c.push.new.self c.in_ok-left.left one c.in_ok-push.ensures.pushed c.in_ok-left.ensures)
    (ap (λ ps. all_remaining gone (map pat_of ps)) (from_place c.args.items.now c.loop-item.item-index c.item-item.result c.loop-item-test.true c.item-item.is)) c.loop-item.invariant

pub put_branches_left-loop-branch-preserved : goal.put_branches_left-loop-branch-preserved
put_branches_left-loop-branch-preserved t c =
    let gone = among c.args.dropped.now in
    let b = c.branch-item.result in
    let one : Span × PatTree = (b.span, remaining gone no_span (pat_of b.body)) in
    let rest = some_remaining gone (map branch_tree (drop (c.loop-branch.branch-index + 1) c.args.branches.now)) in
    let from : some_remaining gone (map branch_tree (drop c.loop-branch.branch-index c.args.branches.now)) ≡ (if gone b.span then rest else one ∷ rest) =
    ap (some_remaining gone) (trees_from c.args.branches.now c.loop-branch.branch-index b c.loop-branch-test.true c.branch-item.is) in
    elim c.if-not-among.branch [
      | put_branches_left-then-not-among+in_ok-body+in_ok-push w ↦
          one_more (map branch_tree c.loop-branch.found) (map branch_tree c.if-not-among.found) (one ∷ []) rest _ _
          (ap (map branch_tree) w.found-is ∙ one_seen branch_tree c.loop-branch.found w.push.new.self w.branch_at.result one w.in_ok-push.ensures.pushed (w.branch_at.ensures ∙ ap (λ p. (b.span, p)) w.in_ok-body.ensures))
          (from ∙ ap (λ x. if x then rest else one ∷ rest) (sym c.among.ensures ∙ w.if-not-among.true)) c.loop-branch.invariant
      | put_branches_left-else-not-among w ↦
          none_more (map branch_tree c.loop-branch.found) (map branch_tree c.if-not-among.found) rest _ _ (ap (map branch_tree) w.found-is)
          (from ∙ ap (λ x. if x then rest else one ∷ rest) (sym c.among.ensures ∙ w.if-not-among.false)) c.loop-branch.invariant
    ]
