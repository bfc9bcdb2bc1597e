use Rattle.std.proofs.Common.{◌≡◌, ◌<◌, ℕ, Bool, List, [], length, get_or, sym, ◌∙◌, subst, arith}
use Rattle.rl_graph.specs.Graph.{edges_of}
use Rattle.rl_graph.specs.Parts.{number_of}
use Rattle.rl_degree.specs.internal.Groups.{AreGroupsFrom}
use Rattle.rl_degree.specs.internal.Reached.{IsReachedRow, AreReachedUpTo}
use Rattle.rl_degree.proofs.ReachLaws.{reached-none, reached-more}
use Rattle.rl_degree.proofs.reached.reached_rows.Goals as goal

pub groups_of-requires-clause-size : goal.groups_of-requires-clause-size
groups_of-requires-clause-size c = c.requires.size ∙ sym c.states.ensures.number

pub groups_of-requires-clause-below : goal.groups_of-requires-clause-below
groups_of-requires-clause-below c =
    subst (λ (n : ℕ). (q : ℕ) → q < n → number_of c.args.components.now q < n) (sym c.states.ensures.number) c.requires.below

pub loop-component-init : goal.loop-component-init
loop-component-init c = reached-none (edges_of c.args.g.now) c.args.g.now.states c.args.components.now c.in_ok-rows.rows.items c.in_ok-rows.ensures.items

pub reached_row-requires-clause-size : goal.reached_row-requires-clause-size
reached_row-requires-clause-size c = c.requires.size

pub reached_row-requires-clause-component_in : goal.reached_row-requires-clause-component_in
reached_row-requires-clause-component_in c = omega (arith, c.states-component-end.ensures.number)

pub reached_row-requires-clause-groups : goal.reached_row-requires-clause-groups
reached_row-requires-clause-groups c =
    let groups = c.in_ok-groups.groups in
    subst (λ (n : ℕ). AreGroupsFrom c.args.components.now n 0 groups.firsts.items groups.nexts.items) c.states.ensures.number c.in_ok-groups.ensures

pub reached_row-requires-clause-wide : goal.reached_row-requires-clause-wide
reached_row-requires-clause-wide c =
    let i = c.loop-component.invariant in
    subst (λ (r : List (List Bool)). (k : ℕ) → k < length r → length (get_or r k []) ≡ c.args.g.now.states) (sym c.deref.ensures.value) (λ k lt. i.wide k (omega (arith, i.size)))

pub loop-component-preserved : goal.loop-component-preserved
loop-component-preserved c =
    let g = c.args.g.now in
    let p = c.args.components.now in
    let k = c.loop-component.component in
    let rows = c.loop-component.rows.items in
    let row = c.in_ok-row.row in
    let here = subst (λ (r : List (List Bool)). IsReachedRow (edges_of g) g.states p r k row) c.deref.ensures.value c.in_ok-row.ensures in
    reached-more g p k rows c.push.new.self.items row c.states.ensures.whole c.requires c.loop-component.invariant here c.in_ok-push.ensures.items

pub returns : goal.returns
returns c =
    let g = c.args.g.now in
    let e : c.loop-component.component ≡ g.states = omega (arith, c.states-component-end.ensures.number) in
    subst (λ (k : ℕ). AreReachedUpTo (edges_of g) g.states c.args.components.now k c.loop-component.rows.items) e c.loop-component.invariant
