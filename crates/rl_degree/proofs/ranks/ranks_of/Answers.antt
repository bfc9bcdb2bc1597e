use Rattle.std.proofs.Common.{◌≡◌, ℕ, length, sym, ap, subst, arith}
use Rattle.std.proofs.lemmas.List.{length_push}
use Rattle.rl_graph.specs.Graph.{edges_of}
use Rattle.rl_graph.specs.Parts.{number_of}
use Rattle.rl_graph.specs.Twins.{IsRank}
use Rattle.rl_graph.proofs.GraphLaws.{bounded-whole}
use Rattle.rl_degree.specs.internal.Ranks.{best_at}
use Rattle.rl_degree.proofs.RankLaws.{best-rank, rank-more}
use Rattle.rl_degree.proofs.ranks.ranks_of.Goals as goal

pub loop-state-preserved : goal.loop-state-preserved
loop-state-preserved c =
    let f = λ (q : ℕ). (best_at c.args.bests.now (number_of c.args.components.now q)).rank in
    let x = (best_at c.args.bests.now c.of.result).rank in
    let i = c.loop-state.invariant in
    let pushed = c.in_ok-push.ensures.pushed in
    record {
      size = omega (arith, i.size, ap length pushed, length_push c.loop-state.ranks x);
      right = rank-more f c.loop-state.ranks c.push.new.self c.loop-state.state x i.size pushed (ap (λ (k : ℕ). (best_at c.args.bests.now k).rank) c.of.ensures) i.right;
    }

pub returns : goal.returns
returns c =
    let g = c.args.g.now in
    let next = edges_of g in
    let i = c.loop-state.invariant in
    let all : c.loop-state.state ≡ g.states = omega (arith, c.states-state-end.ensures.number) in
    record {
      size = omega (arith, i.size, all);
      right = λ q hq. subst (IsRank next q) (sym (i.right q (omega (arith, all)))) (best-rank next g.states g.letters c.args.components.now c.args.bests.now (bounded-whole g c.states-state-end.ensures.whole) c.requires.bests c.requires.parts q hq);
    }
