use Rattle.std.proofs.Common.{◌≡◌, ◌+◌, true, if◌then◌else◌, [], ◌∷◌, ◌++◌, OnOk, drop, map, sym, ap, ◌∙◌, subst, append_assoc}
use Rattle.rl_syntax.specs.PatTree.{pat_of, items_of, branches_of}
use Rattle.rl_syntax.specs.Counting.{branch_tree}
use Rattle.rl_pattern.specs.Suggested.{elsewhere, under, goes_out, merged_at, items_merged, branches_merged}
use Rattle.rl_rewrite.specs.internal.Merges.{around_of}
use Rattle.rl_rewrite.proofs.PartTrees.{repeat-tree}
use Rattle.rl_rewrite.proofs.Rounds.{one_more, items_from, branches_from}
use Rattle.rl_rewrite.proofs.merging.+merging.Goals as goal

pub put_items_merged-loop-item-preserved : goal.put_items_merged-loop-item-preserved
put_items_merged-loop-item-preserved t c =
    one_more c.loop-item.found c.put_merged.new.found (merged_at elsewhere (pat_of c.item-item.result)) (items_merged (items_of (map pat_of (drop (c.loop-item.item-index + 1) c.args.items.now)))) _ _ c.in_ok-put_merged.ensures
    (ap items_merged (items_from c.args.items.now c.loop-item.item-index c.item-item.result c.loop-item-test.true c.item-item.is)) c.loop-item.invariant

pub put_branches_merged-loop-branch-preserved : goal.put_branches_merged-loop-branch-preserved
put_branches_merged-loop-branch-preserved t c =
    one_more c.loop-branch.found c.put_merged.new.found (merged_at elsewhere (pat_of c.branch-item.result.body)) (branches_merged (branches_of (map branch_tree (drop (c.loop-branch.branch-index + 1) c.args.branches.now)))) _ _ c.in_ok-put_merged.ensures
    (ap branches_merged (branches_from c.args.branches.now c.loop-branch.branch-index c.branch-item.result c.loop-branch-test.true c.branch-item.is)) c.loop-branch.invariant

pub put_merged-returns-then-goes : goal.put_merged-returns-then-goes
put_merged-returns-then-goes t c =
    let around = around_of c.args.place in
    let r = c.in-Repeat in
    let mark = r.mark in
    let inner = merged_at (under r.min r.max) (pat_of r.body.value) in
    let found = c.args.found.now in
    let body : c.put_merged-in-Repeat.new.found ≡ found ++ inner = c.in_ok-put_merged-in-Repeat.ensures ∙ ap (λ b. found ++ merged_at (under r.min r.max) (pat_of b)) c.deref-in-Repeat.ensures in
    let out : goes_out around r.min r.max (pat_of r.body.value) ≡ true = ap (λ b. goes_out around r.min r.max (pat_of b)) (sym c.deref-in-Repeat-2.ensures) ∙ (sym c.goes.ensures ∙ c.if-goes.true) in
    let all : inner ++ mark ∷ [] ≡ merged_at around (pat_of c.args.part.now) =
    sym (ap (merged_at around) (ap pat_of r.is ∙ repeat-tree r.span mark r.min r.max r.greedy r.body) ∙ ap (λ g. if g then inner ++ mark ∷ [] else inner) out) in
    subst (λ l. OnOk c.push.result (c.push.new.self ≡ l)) (ap (λ l. l ++ mark ∷ []) body ∙ (append_assoc found inner (mark ∷ []) ∙ ap (λ l. found ++ l) all)) c.push.ensures.pushed
