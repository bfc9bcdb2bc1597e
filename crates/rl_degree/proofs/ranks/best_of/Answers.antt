use Rattle.rl_graph.specs.Graph.{edges_of}
use Rattle.rl_degree.proofs.RankLaws.{moves-raised}
use Rattle.rl_degree.proofs.ranks.best_of.Goals as goal

pub returns-clause-best : goal.returns-clause-best
returns-clause-best c =
    let m = c.best_by_all_moves-by_moves in
    let o = c.in_ok-best.ensures in
    λ q hq f. record {
      good = o.good q hq f;
      moves = moves-raised (edges_of c.args.g.now) c.args.table.now.components c.args.bests.now q m.result.rank c.in_ok-best.best.rank (m.ensures.moves q hq f) o.least;
      splits = o.splits q hq f;
    }
