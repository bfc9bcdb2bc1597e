use Rattle.std.proofs.lemmas.Result.{on_ok_weaker}
use Rattle.rl_syntax.specs.Tree.{tree_of, guard_sets}
use Rattle.rl_prio.proofs.InsideLemmas.{added-inside, guard_sets-lie}
use Rattle.rl_prio.proofs.build.sets.add_guard_sets.Goals as goal

pub returns-clause-inside : goal.returns-clause-inside
returns-clause-inside c =
    let t = tree_of c.args.tree.now in
    on_ok_weaker c.add_sets_of_guards.result
    (λ is u over were. added-inside u c.args.sets.now.items c.add_sets_of_guards.new.sets.items (guard_sets t) is (guard_sets-lie u t over) were)
    c.add_sets_of_guards.ensures
