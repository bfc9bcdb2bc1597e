use Rattle.std.proofs.Common.{sym, subst, ◌∙◌, arith}
use Rattle.std.proofs.lemmas.Result.{err_from_is_err_and}
use Rattle.rl_ranges.specs.Text.{code_count}
use Rattle.rl_syntax.specs.Tree.{tree_of}
use Rattle.rl_prio.specs.StandsFor.{StandsOver}
use Rattle.rl_prio.specs.Automaton.{IsAutomaton}
use Rattle.rl_prio.specs.internal.Plans.{IsPlan}
use Rattle.rl_prio.proofs.WidthLemmas.{width-longest, longest-width}
use Rattle.rl_prio.proofs.KindLemmas.{kinds_of_letters}
use Rattle.rl_prio.proofs.BuildLemmas.{sound-plan, automaton, stands, some_codes, too_long}
use Rattle.rl_prio.proofs.prio.Prio.over_letters.Goals as goal

pub returns-in_err-plan-clause-moves : goal.returns-in_err-plan-clause-moves
returns-in_err-plan-clause-moves c =
    let p = err_from_is_err_and c.from_residual-in_err-plan.result c.from_residual-in_err-plan.ensures.1 in
    rw p.1 (λ e.
    let wide = c.in_err-plan.ensures.too_long (too_long c.in_err-plan.field-0.0 (sym p.2 ∙ e)) in
    omega (arith, wide, width-longest (tree_of c.args.tree.now)))

pub kinds-requires-clause-few : goal.kinds-requires-clause-few
kinds-requires-clause-few c =
    let sets = c.requires.finer.0 in
    omega (
      arith,
      kinds_of_letters (tree_of c.args.tree.now) (code_count c.args.universe) sets c.requires.finer.2,
      c.requires.finer.1.same_count,
      c.requires.few,
    )

pub rows-requires : goal.rows-requires
rows-requires c =
    let plan = subst (λ l. IsPlan c.in_ok-plan.plan (tree_of c.args.tree.now) l c.in_ok-kinds.kinds c.args.ending) c.deref.ensures c.in_ok-plan.ensures.ok in
    sound-plan c.in_ok-plan.plan (tree_of c.args.tree.now) c.requires.finer.0 (code_count c.args.universe) c.args.letters.value c.in_ok-kinds.kinds c.args.ending
    plan c.requires.finer.1 c.in_ok-kinds.ensures.ok (some_codes c.args.universe) c.requires.small c.requires.few c.in_ok-kinds.ensures.few

pub states-states-requires : goal.states-states-requires
states-states-requires c =
    let plan = subst (λ l. IsPlan c.in_ok-plan.plan (tree_of c.args.tree.now) l c.in_ok-kinds.kinds c.args.ending) c.deref.ensures c.in_ok-plan.ensures.ok in
    sound-plan c.in_ok-plan.plan (tree_of c.args.tree.now) c.requires.finer.0 (code_count c.args.universe) c.args.letters.value c.in_ok-kinds.kinds c.args.ending
    plan c.requires.finer.1 c.in_ok-kinds.ensures.ok (some_codes c.args.universe) c.requires.small c.requires.few c.in_ok-kinds.ensures.few

pub from_parts-requires : goal.from_parts-requires
from_parts-requires c =
    let plan = subst (λ l. IsPlan c.in_ok-plan.plan (tree_of c.args.tree.now) l c.in_ok-kinds.kinds c.args.ending) c.deref.ensures c.in_ok-plan.ensures.ok in
    subst (λ s. IsAutomaton (record { table = c.args.letters.value; states = s; rows = c.in_ok-rows.rows.rows })) (sym c.states-states.ensures.value)
    (automaton c.in_ok-plan.plan (tree_of c.args.tree.now) c.requires.finer.0 (code_count c.args.universe) c.args.letters.value c.in_ok-kinds.kinds c.args.ending
    plan c.requires.finer.1 c.in_ok-kinds.ensures.ok (some_codes c.args.universe) c.requires.finer.2 c.in_ok-kinds.ensures.few c.in_ok-rows.rows.rows c.in_ok-rows.ensures)

pub returns-clause-ok : goal.returns-clause-ok
returns-clause-ok c sets are finer =
    let plan = subst (λ l. IsPlan c.in_ok-plan.plan (tree_of c.args.tree.now) l c.in_ok-kinds.kinds c.args.ending) c.deref.ensures c.in_ok-plan.ensures.ok in
    subst (λ a. StandsOver a (tree_of c.args.tree.now) c.args.ending sets) (sym c.from_parts.ensures)
    (subst (λ s. StandsOver (record { table = c.args.letters.value; states = s; rows = c.in_ok-rows.rows.rows }) (tree_of c.args.tree.now) c.args.ending sets) (sym c.states-states.ensures.value)
    (stands c.in_ok-plan.plan (tree_of c.args.tree.now) sets (code_count c.args.universe) c.args.letters.value c.in_ok-kinds.kinds c.args.ending
    plan are c.in_ok-kinds.ensures.ok (some_codes c.args.universe) finer c.in_ok-kinds.ensures.few c.in_ok-rows.rows.rows c.in_ok-rows.ensures))

pub returns-clause-short : goal.returns-clause-short
returns-clause-short c = omega (arith, c.in_ok-plan.ensures.short, longest-width (tree_of c.args.tree.now))
