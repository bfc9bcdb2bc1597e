use Rattle.std.proofs.Common.{◌≡◌, ◌-◌, ◌∙◌, ap, arith}
use Rattle.rl_ranges.specs.Codes.{has}
use Rattle.rl_syntax.specs.Tree.{Tree, tree_of}
use Rattle.rl_syntax.specs.Modes.{is_code}
use Rattle.rl_syntax.proofs.SetTests.{has-all}
use Rattle.rl_reach.proofs.bounds.after_one.Goals as goal

pub returns-clause-tree : goal.returns-clause-tree
returns-clause-tree c =
    let e : has c.in_ok-range.field-0 ≡ is_code c.args.universe =
    has-all c.args.universe (c.count.result - 1) _ (grind arith) c.in_ok-range.ensures.members in
    c.in_ok-both.ensures ∙ ap (λ set. Tree.both (Tree.one set) (tree_of c.args.lowered.tree)) e
