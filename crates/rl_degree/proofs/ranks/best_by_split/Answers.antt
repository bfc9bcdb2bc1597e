use Rattle.std.proofs.Common.{ℕ, ◌<◌, ◌+◌, sym, ap, subst, arith}
use Rattle.rl_graph.specs.Graph.{edges_of}
use Rattle.rl_graph.specs.Parts.{number_of}
use Rattle.rl_degree.specs.internal.Ranks.{best_at, IsGood}
use Rattle.rl_degree.proofs.SearchLaws.{split-below}
use Rattle.rl_degree.proofs.RankLaws.{good-split}
use Rattle.rl_degree.proofs.ranks.best_by_split.Goals as goal

pub returns-then-component-of-clause-split : goal.returns-then-component-of-clause-split
returns-then-component-of-clause-split c =
    let g = c.args.g.now in
    λ s. absurd (omega (arith, c.if-component-of.true, c.of-component.ensures, c.of.ensures, split-below (edges_of g) g.states c.args.table.now.components c.requires.table.components c.requires.no_twin c.args.state c.args.to s.0 c.requires.state_in c.requires.to_in s.1))

pub returns-clause-good : goal.returns-clause-good
returns-clause-good c =
    let g = c.args.g.now in
    let next = edges_of g in
    let p = c.args.table.now.components in
    let bests = c.args.bests.now in
    let split = c.in_ok-is_split.ensures.split.0 c.if-not-branch.false in
    let lt : number_of p c.args.to < number_of p c.args.state = omega (arith, c.of-component.ensures, c.of.ensures, c.if-component-of.false) in
    subst (λ (k : ℕ). IsGood next g.states p bests c.args.state (record { rank = (best_at bests k).rank + 1; from = c.args.state; to = c.args.to })) (sym c.of-component.ensures)
    (good-split next g.states p bests c.args.state c.args.to c.requires.bests c.requires.state_in c.requires.to_in split lt)

pub returns-clause-split : goal.returns-clause-split
returns-clause-split c = λ s. omega (arith, ap (λ (k : ℕ). (best_at c.args.bests.now k).rank) c.of-component.ensures)
