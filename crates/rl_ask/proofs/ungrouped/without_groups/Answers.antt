use Rattle.rl_marks.specs.Marked.{marked_of}
use Rattle.rl_ask.proofs.TreeLemmas.{still-marked}
use Rattle.rl_ask.proofs.ungrouped.without_groups.Goals as goal

pub invariant_of-result : goal.invariant_of-result
invariant_of-result c =
    record { judged = still-marked c.args.pattern.now.universe (marked_of c.args.pattern.now.tree) (marked_of c.in_ok-tree.tree) c.in_ok-tree.ensures c.args.pattern.now.judged }
