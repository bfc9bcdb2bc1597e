use Rattle.std.proofs.Common.{◌≡◌, ◌<◌, ◌≤◌, ℕ, List, length, get_or, sym, ◌∙◌, ap, subst, arith}
use Rattle.rl_graph.specs.Graph.{edges_of}
use Rattle.rl_graph.specs.Parts.{number_of}
use Rattle.rl_graph.proofs.Sums.{Has-get_or}
use Rattle.rl_degree.specs.internal.Ranks.{best_at, IsGood}
use Rattle.rl_degree.proofs.RankLaws.{good-better, good-move, first-more, first-all}
use Rattle.rl_degree.proofs.ranks.best_by_letter.Goals as goal
use Rattle.rl_degree.proofs.ranks.best_by_letter.Goals.{then-component-own, else-component-own}

pub of-component-requires : goal.of-component-requires
of-component-requires c =
    let g = c.args.g.now in
    let row = edges_of g c.args.state c.args.letter in
    let k = c.loop-place.place in
    let lt : k < length row = omega (arith, ap length c.edges-row.ensures.targets) in
    let small = c.edges-row.ensures.whole.targets c.args.state c.args.letter (get_or row k 0) (Has-get_or row k 0 lt) in
    rw c.edges-row.ensures.targets (omega (arith, small, c.requires.parts.size))

pub loop-place-preserved : goal.loop-place-preserved
loop-place-preserved c =
    let g = c.args.g.now in
    let next = edges_of g in
    let n = g.states in
    let p = c.args.components.now in
    let bests = c.args.bests.now in
    let q = c.args.state in
    let row = edges_of g q c.args.letter in
    let k = c.loop-place.place in
    let i = c.loop-place.invariant in
    let lt : k < length row = omega (arith, ap length c.edges-row.ensures.targets) in
    let m = get_or row k 0 in
    let has = Has-get_or row k 0 lt in
    let hm = c.edges-row.ensures.whole.targets q c.args.letter m has in
    let e : c.of-component.result ≡ number_of p m = c.of-component.ensures ∙ ap (λ (r : List ℕ). number_of p (get_or r k 0)) c.edges-row.ensures.targets in
    elim c.if-component-own.branch [
      | then-component-own w ↦
          let r = w.better-best.result in
          let low : number_of p m < number_of p q = omega (arith, e, c.of-own.ensures, w.if-component-own.true) in
          let good = subst (λ (z : ℕ). IsGood next n p bests q (best_at bests z)) (sym e) (good-move next n p bests q c.args.letter m c.requires.bests hm has low) in
          let other = subst (λ (z : ℕ). (best_at bests z).rank ≤ r.rank) e w.better-best.ensures.other in
          rw w.best-is (record {
            good = good-better next n p bests q c.loop-place.best (best_at bests c.of-component.result) r w.better-best.ensures.one i.good good;
            least = omega (arith, i.least, w.better-best.ensures.least);
            first = first-more p bests q row k c.loop-place.best.rank r.rank i.first w.better-best.ensures.least (λ a. other);
          })
      | else-component-own w ↦
          rw w.best-is (record {
            good = i.good;
            least = i.least;
            first = first-more p bests q row k c.loop-place.best.rank c.loop-place.best.rank i.first (omega arith) (λ a. absurd (omega (arith, e, c.of-own.ensures, w.if-component-own.false)));
          })
    ]

pub returns-clause-letter : goal.returns-clause-letter
returns-clause-letter c =
    first-all (edges_of c.args.g.now) c.args.components.now c.args.bests.now c.args.state c.args.letter c.loop-place.place c.loop-place.best.rank (omega (arith, c.loop-place-test.false, ap length c.edges-row.ensures.targets)) c.loop-place.invariant.first
