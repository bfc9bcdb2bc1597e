-- Whether a branch in the parts so far may span the empty text, or one in those that are left.
use Rattle.std.proofs.Common.{◌≡◌, ◌||◌, drop, map}
use Rattle.rl_syntax.specs.PatTree.{pat_of, items_of, branches_of}
use Rattle.rl_syntax.specs.Counting.{branch_tree}
use Rattle.rl_pattern.specs.Suggested.{among}
use Rattle.rl_rewrite.specs.internal.Keeping.{items_lose_empty, branches_lose_empty}
use Rattle.rl_rewrite.proofs.keeping.+losing.Given as goal

abbrev pub invariant-branches_may_lose_empty-loop-branch : goal.invariant-branches_may_lose_empty-loop-branch
invariant-branches_may_lose_empty-loop-branch l = (l.some || branches_lose_empty (among l.dropped) (among l.gone) (branches_of (map branch_tree (drop l.branch-index l.branches)))) ≡ branches_lose_empty (among l.dropped) (among l.gone) (branches_of (map branch_tree l.branches))

abbrev pub invariant-items_may_lose_empty-loop-item : goal.invariant-items_may_lose_empty-loop-item
invariant-items_may_lose_empty-loop-item l = (l.some || items_lose_empty (among l.dropped) (among l.gone) (items_of (map pat_of (drop l.item-index l.items)))) ≡ items_lose_empty (among l.dropped) (among l.gone) (items_of (map pat_of l.items))
