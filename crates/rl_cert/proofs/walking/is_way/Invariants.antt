use Rattle.std.proofs.Common.{◌<◌, drop}
use Rattle.rl_pairs.specs.PairTable.{moves_in, pair_in}
use Rattle.rl_cert.specs.Ways.{IsWay}
use Rattle.rl_cert.proofs.walking.is_way.Given as goal

abbrev pub invariant-loop-place : goal.invariant-loop-place
invariant-loop-place l = record {
  inside : l.from < l.g.graph.states;
  there : IsWay l.a (moves_in l.g) (pair_in l.g) l.g.graph.states 0 l.anchors l.heads l.pumps
      → IsWay l.a (moves_in l.g) (pair_in l.g) l.g.graph.states l.from (drop l.place l.anchors) (drop l.place l.heads) (drop l.place l.pumps);
  back : IsWay l.a (moves_in l.g) (pair_in l.g) l.g.graph.states l.from (drop l.place l.anchors) (drop l.place l.heads) (drop l.place l.pumps)
      → IsWay l.a (moves_in l.g) (pair_in l.g) l.g.graph.states 0 l.anchors l.heads l.pumps;
}
