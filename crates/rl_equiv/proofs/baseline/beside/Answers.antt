use Rattle.std.proofs.Common.{◌≤◌, arith}
use Rattle.std.proofs.lemmas.Result.{err_from_is_err_and}
use Rattle.rl_syntax.specs.Tree.{tree_of, size}
use Rattle.rl_syntax.specs.declared.limits.TheConstants.{MOST_NODES}
use Rattle.rl_prio.specs.Letters.{all_sets}
use Rattle.rl_equiv.proofs.BaseLaws.{base-letters, base-few, base-within, base-exceeded, base-together}
use Rattle.rl_equiv.proofs.baseline.beside.Goals as goal

pub build_beside-requires-clause-few : goal.build_beside-requires-clause-few
build_beside-requires-clause-few c = base-few c.args.u c.requires.base.0 (tree_of c.args.other.now) c.requires.base.2 c.args.first.now c.requires.base.1

pub build_beside-requires-clause-finer : goal.build_beside-requires-clause-finer
build_beside-requires-clause-finer c =
    (all_sets c.requires.base.0, base-letters c.args.u c.requires.base.0 (tree_of c.args.other.now) c.requires.base.2 c.args.first.now c.requires.base.1, c.requires.base.2)

pub returns-clause-stand : goal.returns-clause-stand
returns-clause-stand c s base tells =
    base-together c.args.u s (tree_of c.args.other.now) tells c.args.first.now base c.in_ok-second.second c.states-states.ensures.automaton c.in_ok-second.ensures.table c.in_ok-second.ensures.ok

pub returns-in_err-second-clause-exceeded : goal.returns-in_err-second-clause-exceeded
returns-in_err-second-clause-exceeded c =
    let p = err_from_is_err_and c.from_residual.result c.from_residual.ensures.1 in
    rw (p.1, p.2) (λ s base tells.
    let small : size (tree_of c.args.other.now) ≤ MOST_NODES = omega (arith, c.if-nodes-gt-MOST_NODES.false, c.nodes.ensures) in
    base-exceeded c.args.u s (tree_of c.args.other.now) tells c.args.first.now base (record { first_small = base.within.small; second_small = small }) c.in_err-second.field-0.0 c.in_err-second.ensures.moves c.in_err-second.ensures.letters)

pub returns-clause-within : goal.returns-clause-within
returns-clause-within c s base tells =
    let small : size (tree_of c.args.other.now) ≤ MOST_NODES = omega (arith, c.if-nodes-gt-MOST_NODES.false, c.nodes.ensures) in
    base-within c.args.u s (tree_of c.args.other.now) tells c.args.first.now base (record { first_small = base.within.small; second_small = small }) c.in_ok-second.ensures.short
