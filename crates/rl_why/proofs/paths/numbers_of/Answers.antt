use Rattle.std.proofs.Common.{◌≡◌, ◌+◌, ◌∙◌, length, get_or, drop, subst, sym, ap, arith}
use Rattle.rl_graph.specs.Graph.{edges_of}
use Rattle.rl_graph.specs.Paths.{Has, IsPath}
use Rattle.rl_graph.proofs.Sums.{Has-get_or}
use Rattle.rl_prio.specs.Automaton.{moves_at}
use Rattle.rl_pairs.specs.PairTable.{moves_in, pair_in}
use Rattle.rl_why.specs.internal.Numbers.{state_in}
use Rattle.rl_why.proofs.NumberLaws.{move-at, state-in, numbers-step}
use Rattle.rl_why.proofs.paths.numbers_of.Goals as goal

pub moves-targets-requires-clause-state_in : goal.moves-targets-requires-clause-state_in
moves-targets-requires-clause-state_in c =
    let g = c.args.g.now in
    let l = get_or c.args.word.now c.loop-k.k 0 in
    let move = move-at (moves_in g) c.args.word.now c.args.path.now c.loop-k.at c.loop-k.invariant.path.0 c.loop-k.k c.loop-k-test.true c.loop-k.invariant.path.1 in
    let inside = state-in c.args.a.now (moves_in g) (pair_in g) g.graph.states c.requires.graph c.loop-k.at l (get_or c.args.path.now c.loop-k.k 0) c.loop-k.invariant.in_states move.in_kept in
    omega (arith, inside, ap (λ p. p.state) c.pair.ensures)

pub number_of-requires-clause-kept_in : goal.number_of-requires-clause-kept_in
number_of-requires-clause-kept_in c =
    let g = c.args.g.now in
    let l = get_or c.args.word.now c.loop-k.k 0 in
    let kept = c.edges-kept.ensures.targets ∙ ap (λ h. edges_of h c.loop-k.at l) c.graph.ensures in
    λ k d lt. c.requires.graph.targets c.loop-k.at l (get_or c.edges-kept.result.now k d) c.loop-k.invariant.in_states (subst (Has (get_or c.edges-kept.result.now k d)) kept (Has-get_or c.edges-kept.result.now k d lt))

pub number_of-requires-clause-number_in : goal.number_of-requires-clause-number_in
number_of-requires-clause-number_in c =
    let g = c.args.g.now in
    let l = get_or c.args.word.now c.loop-k.k 0 in
    let kept = c.edges-kept.ensures.targets ∙ ap (λ h. edges_of h c.loop-k.at l) c.graph.ensures in
    let move = move-at (moves_in g) c.args.word.now c.args.path.now c.loop-k.at c.loop-k.invariant.path.0 c.loop-k.k c.loop-k-test.true c.loop-k.invariant.path.1 in
    omega (arith, move.in_kept, ap length kept)

pub bounds-kept-path : goal.bounds-kept-path
bounds-kept-path c =
    let g = c.args.g.now in
    let l = get_or c.args.word.now c.loop-k.k 0 in
    let kept = c.edges-kept.ensures.targets ∙ ap (λ h. edges_of h c.loop-k.at l) c.graph.ensures in
    let move = move-at (moves_in g) c.args.word.now c.args.path.now c.loop-k.at c.loop-k.invariant.path.0 c.loop-k.k c.loop-k-test.true c.loop-k.invariant.path.1 in
    omega (arith, move.in_kept, ap length kept)

pub loop-k-preserved : goal.loop-k-preserved
loop-k-preserved c =
    let g = c.args.g.now in
    let w = c.args.word.now in
    let p = c.args.path.now in
    let k = c.loop-k.k in
    let at = c.loop-k.at in
    let l = get_or w k 0 in
    let j = get_or p k 0 in
    let kept : c.edges-kept.result.now ≡ moves_in g at l = c.edges-kept.ensures.targets ∙ ap (λ h. edges_of h at l) c.graph.ensures in
    let move = move-at (moves_in g) w p at c.loop-k.invariant.path.0 k c.loop-k-test.true c.loop-k.invariant.path.1 in
    let target : get_or c.edges-kept.result.now j 0 ≡ get_or (moves_in g at l) j 0 = ap (λ x. get_or x j 0) kept in
    record {
      in_states = c.requires.graph.targets at l (get_or c.edges-kept.result.now j 0) c.loop-k.invariant.in_states (subst (λ x. Has x (moves_in g at l)) (sym target) (Has-get_or (moves_in g at l) j 0 move.in_kept));
      path = (c.loop-k.invariant.path.0, subst (λ x. IsPath (moves_in g) x c.loop-k.invariant.path.0 (drop (k + 1) p) (drop (k + 1) w)) (sym target) move.rest);
      rest = numbers-step (moves_in g) (state_in g) (moves_at c.args.a.now) w p c.loop-k.numbers _ _ c.edges-kept.result.now c.moves-targets.result.now at k c.number_of.result c.loop-k-test.true move.in_path
          kept (c.moves-targets.ensures.moves ∙ ap (λ x. moves_at c.args.a.now x.state l) c.pair.ensures) c.number_of.ensures c.in_ok-push.ensures.pushed c.loop-k.invariant.rest;
    }
