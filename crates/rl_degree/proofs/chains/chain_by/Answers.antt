use Rattle.std.proofs.Common.{sym, subst}
use Rattle.rl_graph.specs.Graph.{edges_of}
use Rattle.rl_degree.specs.internal.Ranks.{AreBests}
use Rattle.rl_degree.specs.Chains.{AreRanks}
use Rattle.rl_degree.proofs.chains.chain_by.Goals as goal

pub ranks_of-requires-clause-bests : goal.ranks_of-requires-clause-bests
ranks_of-requires-clause-bests c =
    let g = c.args.g.now in
    subst (AreBests (edges_of g) g.states c.args.table.now.components g.states) (sym c.deref.ensures.value) c.in_ok-bests.ensures

pub longest_links-requires-clause-bests : goal.longest_links-requires-clause-bests
longest_links-requires-clause-bests c =
    let g = c.args.g.now in
    subst (AreBests (edges_of g) g.states c.args.table.now.components g.states) (sym c.deref-2.ensures.value) c.in_ok-bests.ensures

pub longest_links-requires-clause-ranks : goal.longest_links-requires-clause-ranks
longest_links-requires-clause-ranks c =
    let g = c.args.g.now in
    subst (AreRanks (edges_of g) g.states) (sym c.as_slice.ensures) c.in_ok-ranks.ensures

pub returns : goal.returns
returns c = record {
  chain = c.in_ok-links.ensures;
  ranks = c.in_ok-ranks.ensures;
  cycle = c.in_ok-cycle.ensures.cycle;
  no_cycle = c.in_ok-cycle.ensures.none;
}
