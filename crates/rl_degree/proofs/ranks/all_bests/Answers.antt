use Rattle.std.proofs.Common.{◌≡◌, ◌+◌, ◌<◌, ℕ, List, sym, subst, ◌∙◌, arith}
use Rattle.rl_graph.specs.Graph.{edges_of}
use Rattle.rl_graph.specs.Parts.{number_of}
use Rattle.rl_degree.specs.internal.Ranks.{IsBest, AreBests}
use Rattle.rl_degree.specs.declared.ranks.Best.{Best}
use Rattle.rl_degree.proofs.RankLaws.{bests-none, bests-more}
use Rattle.rl_degree.proofs.SearchLaws.{marks-none}
use Rattle.rl_degree.specs.internal.Groups.{AreGroupsFrom}
use Rattle.rl_degree.proofs.ranks.all_bests.Goals as goal

pub loop-component-preserved : goal.loop-component-preserved
loop-component-preserved c =
    let g = c.args.g.now in
    let next = edges_of g in
    let p = c.args.table.now.components in
    let k = c.loop-component.component in
    let bests = c.loop-component.bests.items in
    let b = c.in_ok-best.best in
    let here = subst (λ (l : List Best). (q : ℕ) → q < g.states → number_of p q ≡ k → IsBest next g.states p l q b) c.deref.ensures.value c.in_ok-best.ensures.best in
    record {
      bests = subst (AreBests next g.states p (k + 1)) (sym c.in_ok-push.ensures.items) (bests-more next g.states p k bests b c.requires.table.components c.requires.no_twin c.loop-component.invariant.bests here);
      marks = c.in_ok-best.ensures.marks;
    }

pub groups_of-requires-clause-size : goal.groups_of-requires-clause-size
groups_of-requires-clause-size c = c.requires.table.components.size ∙ sym c.states.ensures.number

pub groups_of-requires-clause-below : goal.groups_of-requires-clause-below
groups_of-requires-clause-below c =
    subst (λ (n : ℕ). (q : ℕ) → q < n → number_of c.args.table.now.components q < n) (sym c.states.ensures.number) c.requires.table.components.below

pub loop-component-init : goal.loop-component-init
loop-component-init c =
    let g = c.args.g.now in
    record {
      bests = bests-none (edges_of g) g.states c.args.table.now.components c.in_ok-bests.bests.items c.in_ok-bests.ensures.items;
      marks = marks-none g c.args.table.now c.in_ok-marks.marks.items c.in_ok-marks.ensures;
    }

pub best_of-requires-clause-component_in : goal.best_of-requires-clause-component_in
best_of-requires-clause-component_in c = omega (arith, c.states-component-end.ensures.number)

pub best_of-requires-clause-groups : goal.best_of-requires-clause-groups
best_of-requires-clause-groups c =
    let groups = c.in_ok-groups.groups in
    subst (λ (n : ℕ). AreGroupsFrom c.args.table.now.components n 0 groups.firsts.items groups.nexts.items) c.states.ensures.number c.in_ok-groups.ensures

pub best_of-requires-clause-marks : goal.best_of-requires-clause-marks
best_of-requires-clause-marks c = c.loop-component.invariant.marks

pub best_of-requires-clause-bests : goal.best_of-requires-clause-bests
best_of-requires-clause-bests c =
    let g = c.args.g.now in
    subst (AreBests (edges_of g) g.states c.args.table.now.components c.loop-component.component) (sym c.deref.ensures.value) c.loop-component.invariant.bests

pub returns : goal.returns
returns c =
    let g = c.args.g.now in
    let e : c.loop-component.component ≡ g.states = omega (arith, c.states-component-end.ensures.number) in
    subst (λ (k : ℕ). AreBests (edges_of g) g.states c.args.table.now.components k c.loop-component.bests.items) e c.loop-component.invariant.bests
