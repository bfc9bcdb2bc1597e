use Rattle.std.proofs.Common.{ℕ, ◌≤◌, Bool, List, length, map, sym, subst, arith}
use Rattle.std.proofs.lemmas.Result.{err_from_is_err_and}
use Rattle.rl_ranges.specs.Codes.{has}
use Rattle.rl_ranges.specs.Letters.{classes}
use Rattle.rl_ranges.specs.Text.{code_count}
use Rattle.rl_ranges.specs.declared.letters.TheConstants.{MOST_LETTERS}
use Rattle.rl_syntax.specs.Tree.{tree_of}
use Rattle.rl_prio.specs.Letters.{all_sets}
use Rattle.rl_prio.proofs.LikenessLemmas.{Finer, Finer-first, Finer-second}
use Rattle.rl_equiv.specs.Limits.{AreSmall}
use Rattle.rl_equiv.specs.SetPairs.{joint_sets, joint_letters}
use Rattle.rl_equiv.proofs.BaseLaws.{first-letters, first-exceeded, second-exceeded, count-few, joint-together}
use Rattle.rl_equiv.proofs.joint.Joint.new.Goals as goal

pub build_over-requires-clause-finer : goal.build_over-requires-clause-finer
build_over-requires-clause-finer c =
    let s = tree_of c.args.a.now in
    let t = tree_of c.args.b.now in
    subst (λ (sets : List (ℕ → Bool)). Finer sets (all_sets s)) (sym c.in_ok-sets.ensures.sets) (Finer-first (all_sets s) (all_sets t))

pub build_beside-requires-clause-few : goal.build_beside-requires-clause-few
build_beside-requires-clause-few c =
    count-few c.args.u (tree_of c.args.a.now) (tree_of c.args.b.now) (map has c.in_ok-sets.sets.items) c.in_ok-sets.ensures.sets c.in_ok-first.first c.in_ok-first.ensures.ok c.in_ok-first.ensures.codes c.in_ok-first.ensures.within.0

pub build_beside-requires-clause-finer : goal.build_beside-requires-clause-finer
build_beside-requires-clause-finer c =
    let s = tree_of c.args.a.now in
    let t = tree_of c.args.b.now in
    (joint_sets s t, first-letters c.args.u s t (map has c.in_ok-sets.sets.items) c.in_ok-sets.ensures.sets c.in_ok-first.first c.in_ok-first.ensures.ok c.in_ok-first.ensures.codes, Finer-second (all_sets s) (all_sets t))

pub returns-clause-stand : goal.returns-clause-stand
returns-clause-stand c =
    joint-together c.args.u (tree_of c.args.a.now) (tree_of c.args.b.now) (map has c.in_ok-sets.sets.items) c.in_ok-sets.ensures.sets c.in_ok-first.first c.in_ok-first.ensures.ok c.in_ok-first.ensures.codes
    c.in_ok-second.second c.states.ensures.automaton c.states-2.ensures.automaton c.in_ok-second.ensures.table c.in_ok-second.ensures.ok

pub returns-in_err-first-clause-exceeded : goal.returns-in_err-first-clause-exceeded
returns-in_err-first-clause-exceeded c =
    let s = tree_of c.args.a.now in
    let t = tree_of c.args.b.now in
    let small : AreSmall s t = record { first_small = omega arith; second_small = omega arith } in
    let p = err_from_is_err_and c.from_residual-in_err-first.result c.from_residual-in_err-first.ensures.1 in
    rw (p.1, p.2) (first-exceeded c.args.u s t (map has c.in_ok-sets.sets.items) c.in_ok-sets.ensures.sets small c.in_err-first.field-0.0 c.in_err-first.ensures.letters c.in_err-first.ensures.moves)

pub returns-in_err-second-clause-exceeded : goal.returns-in_err-second-clause-exceeded
returns-in_err-second-clause-exceeded c =
    let s = tree_of c.args.a.now in
    let t = tree_of c.args.b.now in
    let small : AreSmall s t = record { first_small = omega arith; second_small = omega arith } in
    let few : length (joint_letters c.args.u s t) ≤ MOST_LETTERS =
    subst (λ (sets : List (ℕ → Bool)). length (classes sets (code_count c.args.u)) ≤ MOST_LETTERS) c.in_ok-sets.ensures.sets c.in_ok-first.ensures.within.0 in
    let p = err_from_is_err_and c.from_residual-in_err-second.result c.from_residual-in_err-second.ensures.1 in
    rw (p.1, p.2) (second-exceeded c.args.u s t small few c.in_err-second.field-0.0 c.in_err-second.ensures.moves c.in_err-second.ensures.letters)
