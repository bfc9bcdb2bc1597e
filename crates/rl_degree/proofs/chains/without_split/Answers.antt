use Rattle.std.proofs.Common.{subst, sym}
use Rattle.rl_graph.specs.Graph.{edges_of}
use Rattle.rl_degree.specs.internal.Greatest.{AreLongest}
use Rattle.rl_degree.proofs.ChainLaws.{no_split-longest, no_split-ranks}
use Rattle.rl_degree.proofs.chains.without_split.Goals as goal

pub returns : goal.returns
returns c =
    let g = c.args.g.now in
    record {
      chain = subst (AreLongest (edges_of g) g.states) (sym c.new.ensures) (no_split-longest g c.states.ensures.whole c.requires.no_split);
      ranks = no_split-ranks g c.states.result c.in_ok-ranks.ranks c.states.ensures.whole c.requires.no_split c.states.ensures.number c.in_ok-ranks.ensures;
      cycle = c.in_ok-cycle.ensures.cycle;
      no_cycle = c.in_ok-cycle.ensures.none;
    }
