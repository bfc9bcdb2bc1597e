use Rattle.std.proofs.Common.{◌++◌, map, ap, append_assoc, ◌∙◌}
use Rattle.rl_ranges.specs.Codes.{has}
use Rattle.rl_syntax.specs.Tree.{tree_of, sets_in, guard_sets}
use Rattle.rl_prio.specs.Letters.{all_sets}
use Rattle.rl_prio.proofs.InsideLemmas.{added-inside, all_sets-lie}
use Rattle.rl_prio.proofs.build.add_letter_sets.Goals as goal

pub returns-clause-inside : goal.returns-clause-inside
returns-clause-inside c =
    λ u over were.
    let t = tree_of c.args.tree.now in
    added-inside u c.args.sets.now.items c.add_guard_sets.new.sets.items (all_sets t)
    (c.in_ok-add_guard_sets.ensures.sets ∙ ap (λ l. l ++ guard_sets t) c.in_ok-add_sets.ensures ∙ append_assoc (map has c.args.sets.now.items) (sets_in t) (guard_sets t))
    (all_sets-lie u t over) were
