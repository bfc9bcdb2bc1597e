use Rattle.std.proofs.Common.{◌≡◌, ◌+◌, true, if◌then◌else◌, [], ◌∷◌, ◌++◌, OnOk, drop, map, sym, ap, ◌∙◌, subst, append_assoc}
use Rattle.std.proofs.lemmas.List.{append-nil}
use Rattle.rl_syntax.specs.PatTree.{pat_of, items_of, branches_of}
use Rattle.rl_syntax.specs.Counting.{branch_tree}
use Rattle.rl_pattern.specs.Suggested.{among}
use Rattle.rl_rewrite.specs.internal.Holes.{branch_hole, mark_hole, holes_in, items_holes, branches_holes}
use Rattle.rl_rewrite.proofs.PartTrees.{repeat-tree}
use Rattle.rl_rewrite.proofs.Rounds.{one_more, items_from, branches_from}
use Rattle.rl_rewrite.proofs.spelling.+holes.Goals as goal
use Rattle.rl_rewrite.proofs.spelling.+holes.Goals.{put_holes-then-among+in_ok-push-in-Repeat, put_holes-else-among, put_branches_holes-then-among+in_ok-push, put_branches_holes-else-among+in_ok-put_holes}

pub put_holes-returns-after-among : goal.put_holes-returns-after-among
put_holes-returns-after-among t c =
    let dropped = among c.args.dropped.now in
    let merged = among c.args.merged.now in
    let r = c.in-Repeat in
    let found = c.args.found.now in
    let own = if merged r.mark then mark_hole r.mark ∷ [] else [] in
    let next : c.if-among.found ≡ found ++ own = elim c.if-among.branch [
      | put_holes-then-among+in_ok-push-in-Repeat w ↦
          w.found-is ∙ w.in_ok-push-in-Repeat.ensures.pushed ∙ ap (λ h. found ++ h ∷ []) w.mark_hole.ensures ∙ sym (ap (λ x. found ++ (if x then mark_hole r.mark ∷ [] else [])) (sym c.among.ensures ∙ w.if-among.true))
      | put_holes-else-among w ↦ w.found-is ∙ sym (append-nil found) ∙ sym (ap (λ x. found ++ (if x then mark_hole r.mark ∷ [] else [])) (sym c.among.ensures ∙ w.if-among.false))
    ] in
    let all : own ++ holes_in dropped merged (pat_of r.body.value) ≡ holes_in dropped merged (pat_of c.args.part.now) =
    sym (ap (holes_in dropped merged) (ap pat_of r.is ∙ repeat-tree r.span r.mark r.min r.max r.greedy r.body)) in
    subst (λ l. OnOk c.put_holes.result (c.put_holes.new.found ≡ l))
    (ap (λ b. c.if-among.found ++ holes_in dropped merged (pat_of b)) c.deref.ensures ∙ ap (λ l. l ++ holes_in dropped merged (pat_of r.body.value)) next ∙ append_assoc found own (holes_in dropped merged (pat_of r.body.value)) ∙ ap (λ l. found ++ l) all)
    c.put_holes.ensures

pub put_items_holes-loop-item-preserved : goal.put_items_holes-loop-item-preserved
put_items_holes-loop-item-preserved t c =
    let dropped = among c.args.dropped.now in
    let merged = among c.args.merged.now in
    one_more c.loop-item.found c.put_holes.new.found (holes_in dropped merged (pat_of c.item-item.result)) (items_holes dropped merged (items_of (map pat_of (drop (c.loop-item.item-index + 1) c.args.items.now)))) _ _ c.in_ok-put_holes.ensures
    (ap (items_holes dropped merged) (items_from c.args.items.now c.loop-item.item-index c.item-item.result c.loop-item-test.true c.item-item.is)) c.loop-item.invariant

pub put_branches_holes-loop-branch-preserved : goal.put_branches_holes-loop-branch-preserved
put_branches_holes-loop-branch-preserved t c =
    let dropped = among c.args.dropped.now in
    let merged = among c.args.merged.now in
    let b = c.branch-item.result in
    let hole = branch_hole b.span c.loop-branch.some_before in
    let inner = holes_in dropped merged (pat_of b.body) in
    let less = branches_of (map branch_tree (drop (c.loop-branch.branch-index + 1) c.args.branches.now)) in
    let gone = hole ∷ branches_holes dropped merged less c.loop-branch.some_before in
    let kept = inner ++ branches_holes dropped merged less true in
    let from : branches_holes dropped merged (branches_of (map branch_tree (drop c.loop-branch.branch-index c.args.branches.now))) c.loop-branch.some_before ≡ (if dropped b.span then gone else kept) =
    ap (λ bs. branches_holes dropped merged bs c.loop-branch.some_before) (branches_from c.args.branches.now c.loop-branch.branch-index b c.loop-branch-test.true c.branch-item.is) in
    elim c.if-among.branch [
      | put_branches_holes-then-among+in_ok-push w ↦
          ap (λ s. c.if-among.found ++ branches_holes dropped merged less s) w.some_before-is
          ∙ one_more c.loop-branch.found c.if-among.found (hole ∷ []) (branches_holes dropped merged less c.loop-branch.some_before) _ _
          (w.found-is ∙ w.in_ok-push.ensures.pushed ∙ ap (λ h. c.loop-branch.found ++ h ∷ []) w.branch_hole.ensures)
          (from ∙ ap (λ x. if x then gone else kept) (sym c.among.ensures ∙ w.if-among.true)) c.loop-branch.invariant
      | put_branches_holes-else-among+in_ok-put_holes w ↦
          ap (λ s. c.if-among.found ++ branches_holes dropped merged less s) w.some_before-is
          ∙ one_more c.loop-branch.found c.if-among.found inner (branches_holes dropped merged less true) _ _
          (w.found-is ∙ w.in_ok-put_holes.ensures)
          (from ∙ ap (λ x. if x then gone else kept) (sym c.among.ensures ∙ w.if-among.false)) c.loop-branch.invariant
    ]
