use Rattle.std.proofs.Common.{◌≡◌, length, sym, ◌∙◌, subst}
use Rattle.std.proofs.lemmas.Bool.{eqb-true}
use Rattle.rl_graph.specs.Graph.{edges_of}
use Rattle.rl_degree.specs.internal.Greatest.{AreLongest}
use Rattle.rl_degree.proofs.ChainLaws.{none-longest, from-longest}
use Rattle.rl_degree.proofs.chains.longest_links.Goals as goal

pub returns-then-is_empty : goal.returns-then-is_empty
returns-then-is_empty c =
    let g = c.args.g.now in
    let none : length c.args.ranks.now ≡ 0 = eqb-true (length c.args.ranks.now) 0 (sym c.is_empty.ensures ∙ c.if-is_empty.true) in
    subst (AreLongest (edges_of g) g.states) (sym c.new.ensures) (none-longest g c.args.ranks.now none c.requires.ranks)

pub returns : goal.returns
returns c =
    from-longest c.args.g.now c.args.table.now.components c.args.bests.now c.args.ranks.now c.top_place.result _ c.requires.table.whole c.requires.table.components c.requires.bests c.requires.ranks
    c.top_place.ensures.place_in c.top_place.ensures.greatest c.chain_from.ensures.chain c.chain_from.ensures.long c.chain_from.ensures.states
