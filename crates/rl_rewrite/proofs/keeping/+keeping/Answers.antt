use Rattle.std.proofs.Common.{◌≡◌, ◌+◌, not, ◌&&◌, if◌then◌else◌, ◌++◌, drop, map, sym, ap, ◌∙◌}
use Rattle.std.proofs.lemmas.List.{at_drop_all}
use Rattle.rl_syntax.specs.declared.span.Span.{Span}
use Rattle.rl_syntax.specs.declared.pat.Pat.{Pat-F}
use Rattle.rl_syntax.specs.declared.pat.Pat.TheVariants as V
use Rattle.rl_syntax.specs.declared.pat.Pat.TheFolds.{fold-roll-Pat}
use Rattle.rl_syntax.specs.PatTree.{PatTree, layer_of, branch_of, pat_of, items_of, branches_of}
use Rattle.rl_syntax.specs.Counting.{branch_tree}
use Rattle.rl_pattern.specs.Suggested.{among}
use Rattle.rl_rewrite.specs.internal.Keeping.{flags_in, items_flags, branches_flags}
use Rattle.rl_rewrite.proofs.Rounds.{from_place, branches_from, one_more, none_more, last_round}
use Rattle.rl_rewrite.proofs.keeping.+keeping.Goals as goal
use Rattle.rl_rewrite.proofs.keeping.+keeping.Goals.{put_items_flags-in-Class+in_ok-push-in-Class, put_items_flags-in_default+in_ok-put_flags-in_default, put_branches_flags-then-not-among+in_ok-put_flags, put_branches_flags-then-keep, put_branches_flags-else-keep, put_branches_flags-else-not-among}

pub put_items_flags-loop-item-preserved : goal.put_items_flags-loop-item-preserved
put_items_flags-loop-item-preserved t c =
    let more = flags_in (among c.args.dropped.now) (among c.args.gone.now) c.args.keep (pat_of c.item-item.result) in
    let added : c.match-item.found.items ≡ c.loop-item.found.items ++ more = elim c.match-item.branch [
      | put_items_flags-in-Class+in_ok-push-in-Class w ↦
          ap (λ v. v.items) w.found-is
          ∙ w.in_ok-push-in-Class.ensures.items
          ∙ ap (λ q. c.loop-item.found.items ++ flags_in (among c.args.dropped.now) (among c.args.gone.now) c.args.keep q) (sym (ap pat_of (w.in-Class.is ∙ sym (V.rolls-Class w.in-Class.span w.in-Class.set)) ∙ fold-roll-Pat PatTree (Span × PatTree) layer_of branch_of (Pat-F.Class w.in-Class.span w.in-Class.set)))
      | put_items_flags-in_default+in_ok-put_flags-in_default w ↦ ap (λ v. v.items) w.found-is ∙ w.in_ok-put_flags-in_default.ensures
    ] in
    one_more c.loop-item.found.items c.match-item.found.items more (items_flags (among c.args.dropped.now) (among c.args.gone.now) c.args.keep (items_of (map pat_of (drop (c.loop-item.item-index + 1) c.args.items.now)))) _ _ added
    (ap (λ ps. items_flags (among c.args.dropped.now) (among c.args.gone.now) c.args.keep (items_of (map pat_of ps))) (from_place c.args.items.now c.loop-item.item-index c.item-item.result c.loop-item-test.true c.item-item.is)) c.loop-item.invariant

pub put_branches_flags-loop-branch-preserved : goal.put_branches_flags-loop-branch-preserved
put_branches_flags-loop-branch-preserved t c =
    let dropped = among c.args.dropped.now in
    let keep = c.args.keep in
    let b = c.branch-item.result in
    let stays = keep && not (among c.args.gone.now b.span) in
    let inner = flags_in dropped (among c.args.gone.now) stays (pat_of b.body) in
    let rest = branches_flags dropped (among c.args.gone.now) keep (branches_of (map branch_tree (drop (c.loop-branch.branch-index + 1) c.args.branches.now))) in
    let from : branches_flags dropped (among c.args.gone.now) keep (branches_of (map branch_tree (drop c.loop-branch.branch-index c.args.branches.now))) ≡ (if dropped b.span then rest else inner ++ rest) =
    ap (branches_flags dropped (among c.args.gone.now) keep) (branches_from c.args.branches.now c.loop-branch.branch-index b c.loop-branch-test.true c.branch-item.is) in
    elim c.if-not-among.branch [
      | put_branches_flags-then-not-among+in_ok-put_flags w ↦
          let flag : w.if-keep.stays ≡ stays = elim w.if-keep.branch [
            | put_branches_flags-then-keep v ↦ v.stays-is ∙ ap not v.among-then-keep.ensures ∙ sym (ap (λ k. k && not (among c.args.gone.now b.span)) v.if-keep.true)
            | put_branches_flags-else-keep v ↦ v.stays-is ∙ v.if-keep.false ∙ sym (ap (λ k. k && not (among c.args.gone.now b.span)) v.if-keep.false)
          ] in
          one_more c.loop-branch.found.items c.if-not-among.found.items inner rest _ _
          (ap (λ v. v.items) w.found-is ∙ w.in_ok-put_flags.ensures ∙ ap (λ s. c.loop-branch.found.items ++ flags_in dropped (among c.args.gone.now) s (pat_of b.body)) flag)
          (from ∙ ap (λ x. if x then rest else inner ++ rest) (sym c.among.ensures ∙ w.if-not-among.true)) c.loop-branch.invariant
      | put_branches_flags-else-not-among w ↦
          none_more c.loop-branch.found.items c.if-not-among.found.items rest _ _ (ap (λ v. v.items) w.found-is)
          (from ∙ ap (λ x. if x then rest else inner ++ rest) (sym c.among.ensures ∙ w.if-not-among.false)) c.loop-branch.invariant
    ]

pub put_items_flags-returns : goal.put_items_flags-returns
put_items_flags-returns t c =
    last_round c.loop-item.found.items _ _ (at_drop_all (λ ps. items_flags (among c.args.dropped.now) (among c.args.gone.now) c.args.keep (items_of (map pat_of ps))) c.args.items.now c.loop-item.item-index c.loop-item-test.false) c.loop-item.invariant

pub put_branches_flags-returns : goal.put_branches_flags-returns
put_branches_flags-returns t c =
    last_round c.loop-branch.found.items _ _ (at_drop_all (λ bs. branches_flags (among c.args.dropped.now) (among c.args.gone.now) c.args.keep (branches_of (map branch_tree bs))) c.args.branches.now c.loop-branch.branch-index c.loop-branch-test.false) c.loop-branch.invariant
