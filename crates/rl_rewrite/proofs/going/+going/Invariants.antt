-- Whether branches may be dropped from the parts so far, and from the remaining parts.
use Rattle.std.proofs.Common.{◌≡◌, ◌&&◌, drop, map}
use Rattle.rl_syntax.specs.PatTree.{pat_of, items_of, branches_of}
use Rattle.rl_syntax.specs.Counting.{branch_tree}
use Rattle.rl_pattern.specs.Suggested.{among, items_may_go, branches_may_go}
use Rattle.rl_rewrite.proofs.going.+going.Given as goal

abbrev pub invariant-branches_may_go-loop-branch : goal.invariant-branches_may_go-loop-branch
invariant-branches_may_go-loop-branch l = (l.all && branches_may_go (among l.dropped) (branches_of (map branch_tree (drop l.branch-index l.branches)))) ≡ branches_may_go (among l.dropped) (branches_of (map branch_tree l.branches))

abbrev pub invariant-items_may_go-loop-item : goal.invariant-items_may_go-loop-item
invariant-items_may_go-loop-item l = (l.all && items_may_go (among l.dropped) (items_of (map pat_of (drop l.item-index l.items)))) ≡ items_may_go (among l.dropped) (items_of (map pat_of l.items))
