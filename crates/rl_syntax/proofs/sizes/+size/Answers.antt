use Rattle.std.proofs.Common.{◌≡◌, ap, sym, ◌∙◌, arith}
use Rattle.std.proofs.lemmas.Grind.{common_steps}
use Rattle.std.specs.List.{sum_by}
use Rattle.rl_syntax.specs.Tree.{capped}
use Rattle.rl_syntax.proofs.PartSizes.{part_nodes, branch_nodes, size-items, size-branches}
use Rattle.rl_syntax.proofs.sizes.+size.Goals as goal

pub branches_size-returns : goal.branches_size-returns
branches_size-returns t c =
    let n : c.loop-branch.nodes ≡ capped (sum_by branch_nodes c.args.branches.now) = grind (arith, common_steps) in
    c.joined_size.ensures (sum_by branch_nodes c.args.branches.now) n ∙ sym (ap capped (size-branches c.args.branches.now))

pub items_size-returns : goal.items_size-returns
items_size-returns t c =
    let n : c.loop-item.nodes ≡ capped (sum_by part_nodes c.args.items.now) = grind (arith, common_steps) in
    c.joined_size.ensures (sum_by part_nodes c.args.items.now) n ∙ sym (ap capped (size-items c.args.items.now))
