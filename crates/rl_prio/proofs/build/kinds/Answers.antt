use Rattle.std.proofs.Common.{◌≡◌, ◌<◌, ◌++◌, [], length, map, subst, arith}
use Rattle.std.proofs.lemmas.List.Elements.{All-nil}
use Rattle.rl_ranges.specs.Codes.{has, IsInside}
use Rattle.rl_ranges.specs.Letters.{classes}
use Rattle.rl_ranges.specs.Text.{code_count}
use Rattle.rl_ranges.specs.declared.letters.TheConstants.{MOST_LETTERS}
use Rattle.rl_syntax.specs.Tree.{tree_of, guard_sets}
use Rattle.rl_prio.proofs.InsideLemmas.{added-inside, guard_sets-lie}
use Rattle.rl_prio.proofs.build.kinds.Goals as goal

pub of-requires : goal.of-requires
of-requires c =
    let t = tree_of c.args.tree.now in
    added-inside c.args.universe [] c.add_guard_sets.new.sets.items (guard_sets t)
    (subst (λ l. map has c.add_guard_sets.new.sets.items ≡ map has l ++ guard_sets t) c.new-sets.ensures.items c.in_ok-add_guard_sets.ensures.sets)
    (guard_sets-lie c.args.universe t c.requires.inside) (All-nil (IsInside c.args.universe))

pub unreachable-requires : goal.unreachable-requires
unreachable-requires c =
    let t = tree_of c.args.tree.now in
    let same = subst (λ l. map has c.add_guard_sets.new.sets.items ≡ map has l ++ guard_sets t) c.new-sets.ensures.items c.in_ok-add_guard_sets.ensures.sets in
    let over = subst (λ l. MOST_LETTERS < length (classes l (code_count c.args.universe))) same (c.in-Err-TooMany.ensures.too_many c.in-Err-TooMany.field-0-is) in
    absurd (omega (arith, over, c.requires.few))
