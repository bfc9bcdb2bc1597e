use Rattle.std.proofs.Common.{◌∙◌, sym, ap, subst}
use Rattle.rl_graph.specs.Graph.{edges_of}
use Rattle.rl_graph.specs.Paths.{IsPath}
use Rattle.rl_syntax.specs.Tree.{tree_of}
use Rattle.rl_pairs.specs.PairTable.{moves_in}
use Rattle.rl_why.proofs.ReadingLaws.{place-as, one-way, along}
use Rattle.rl_why.proofs.reading.way_along.Goals as goal

pub numbers_of-requires-clause-path : goal.numbers_of-requires-clause-path
numbers_of-requires-clause-path c =
    let g = c.args.g.now in (
      c.args.to,
      subst (λ p. IsPath (moves_in g) c.args.from c.args.to p c.args.word.now) (sym c.as_slice.ensures)
          (subst (λ h. IsPath (edges_of h) c.args.from c.args.to c.in_ok-path.path c.args.word.now) c.graph.ensures c.in_ok-path.ensures),
    )

pub unreachable-requires : goal.unreachable-requires
unreachable-requires c =
    let g = c.args.g.now in
    let a = c.args.a.now in
    let t = tree_of c.args.tree.now in
    let s = c.requires.setting in
    let w = c.args.word.now in
    let path = subst (λ p. IsPath (moves_in g) c.args.from c.args.to p w) (sym c.as_slice.ensures)
    (subst (λ h. IsPath (edges_of h) c.args.from c.args.to c.in_ok-path.path w) c.graph.ensures c.in_ok-path.ensures) in
    let from = place-as t a g s w c.args.from c.args.to _ _ c.place_of_state.result c.requires.from_in c.requires.some c.requires.letters c.requires.over
    c.states-states.ensures.count (ap (λ p. p.state) c.pair.ensures) c.place_of_state.ensures in
    let to = place-as t a g s w c.args.to c.args.to _ _ c.place_of_state-2.result c.requires.to_in c.requires.some c.requires.letters c.requires.behind
    c.states-states.ensures.count (ap (λ p. p.state) c.pair-2.ensures) c.place_of_state-2.ensures in
    (rw c.in-None.is at c.in_ok-found.ensures.none)
    (one-way t a g s c.args.from c.args.to w c.as_slice.result.now c.args.text.now c.as_slice-2.result.now c.place_of_state.result c.place_of_state-2.result c.last_of.result
    c.requires.from_in c.requires.to_in c.requires.some c.requires.letters c.requires.before path c.requires.behind c.requires.text (c.as_slice-2.ensures ∙ c.in_ok-numbers.ensures) from to c.last_of.ensures)

pub returns : goal.returns
returns c =
    let g = c.args.g.now in
    let a = c.args.a.now in
    let t = tree_of c.args.tree.now in
    let s = c.requires.setting in
    let w = c.args.word.now in
    let from = place-as t a g s w c.args.from c.args.to _ _ c.place_of_state.result c.requires.from_in c.requires.some c.requires.letters c.requires.over
    c.states-states.ensures.count (ap (λ p. p.state) c.pair.ensures) c.place_of_state.ensures in
    let to = place-as t a g s w c.args.to c.args.to _ _ c.place_of_state-2.result c.requires.to_in c.requires.some c.requires.letters c.requires.behind
    c.states-states.ensures.count (ap (λ p. p.state) c.pair-2.ensures) c.place_of_state-2.ensures in
    let path = subst (λ p. IsPath (moves_in g) c.args.from c.args.to p w) (sym c.as_slice.ensures)
    (subst (λ h. IsPath (edges_of h) c.args.from c.args.to c.in_ok-path.path w) c.graph.ensures c.in_ok-path.ensures) in
    let way = rw c.in-Some.is at c.in_ok-found.ensures.way in
    let leads = rw c.in-Some.is at c.in_ok-found.ensures.leads in
    along t a g s c.args.from c.args.to w c.as_slice.result.now c.args.text.now c.as_slice-2.result.now c.place_of_state.result c.place_of_state-2.result c.last_of.result c.in-Some.way from to c.last_of.ensures way leads path
    (c.as_slice-2.ensures ∙ c.in_ok-numbers.ensures)
