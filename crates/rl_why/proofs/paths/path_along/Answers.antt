use Rattle.std.proofs.Common.{◌+◌, ◌∙◌, ◌++◌, length, drop, get_or, refl, sym, ap, subst}
use Rattle.rl_graph.specs.Graph.{edges_of}
use Rattle.rl_why.specs.internal.Paths.{is_led, path_to, AreFlags}
use Rattle.rl_why.proofs.PathSearch.{paths-led, edges-inside, layer-at, step-at, path-step, path-whole}
use Rattle.rl_why.proofs.paths.path_along.Goals as goal

pub loop-k-init : goal.loop-k-init
loop-k-init c =
    record {
      in_states = c.requires.from_in;
      leads = paths-led (edges_of c.args.g.now) c.args.to c.args.word.now c.args.from c.requires.leads;
      rest = ap (λ x. x ++ path_to (edges_of c.args.g.now) c.args.to c.args.word.now c.args.from) c.new-path.ensures;
    }

pub first_flag-number-requires-clause-inside : goal.first_flag-number-requires-clause-inside
first_flag-number-requires-clause-inside c =
    let g = c.args.g.now in
    let layer = layer-at g.states (edges_of g) c.args.to c.args.word.now c.in_ok-layers.layers c.as_slice.result.now c.index-as_slice-word.result c.loop-k.k c.loop-k-test.true c.in_ok-layers.ensures.size c.in_ok-layers.ensures.right c.as_slice.ensures c.index-as_slice-word.is in
    edges-inside g c.loop-k.state (get_or c.args.word.now c.loop-k.k 0) _ c.edges-targets.result.now c.edges-targets.ensures.whole c.edges-targets.ensures.targets
    (ap length c.as_slice-in-loop-k.ensures ∙ layer.size)

pub bounds-targets-number : goal.bounds-targets-number
bounds-targets-number c =
    let g = c.args.g.now in
    let layer = layer-at g.states (edges_of g) c.args.to c.args.word.now c.in_ok-layers.layers c.as_slice.result.now c.index-as_slice-word.result c.loop-k.k c.loop-k-test.true c.in_ok-layers.ensures.size c.in_ok-layers.ensures.right c.as_slice.ensures c.index-as_slice-word.is in
    let inside = edges-inside g c.loop-k.state (get_or c.args.word.now c.loop-k.k 0) g.states c.edges-targets.result.now c.edges-targets.ensures.whole c.edges-targets.ensures.targets refl in
    let step = step-at g.states (edges_of g) c.args.to c.args.word.now c.loop-k.k c.loop-k.state c.first_flag-number.result c.edges-targets.result.now c.as_slice-in-loop-k.result.now c.loop-k-test.true c.loop-k.invariant.leads c.edges-targets.ensures.targets
    (subst (AreFlags g.states (is_led (edges_of g) c.args.to (drop (c.loop-k.k + 1) c.args.word.now))) (sym c.as_slice-in-loop-k.ensures) layer) inside c.first_flag-number.ensures in
    step.in_targets

pub loop-k-preserved : goal.loop-k-preserved
loop-k-preserved c =
    let g = c.args.g.now in
    let layer = layer-at g.states (edges_of g) c.args.to c.args.word.now c.in_ok-layers.layers c.as_slice.result.now c.index-as_slice-word.result c.loop-k.k c.loop-k-test.true c.in_ok-layers.ensures.size c.in_ok-layers.ensures.right c.as_slice.ensures c.index-as_slice-word.is in
    let inside = edges-inside g c.loop-k.state (get_or c.args.word.now c.loop-k.k 0) g.states c.edges-targets.result.now c.edges-targets.ensures.whole c.edges-targets.ensures.targets refl in
    let step = step-at g.states (edges_of g) c.args.to c.args.word.now c.loop-k.k c.loop-k.state c.first_flag-number.result c.edges-targets.result.now c.as_slice-in-loop-k.result.now c.loop-k-test.true c.loop-k.invariant.leads c.edges-targets.ensures.targets
    (subst (AreFlags g.states (is_led (edges_of g) c.args.to (drop (c.loop-k.k + 1) c.args.word.now))) (sym c.as_slice-in-loop-k.ensures) layer) inside c.first_flag-number.ensures in
    record {
      in_states = inside c.first_flag-number.result 0 step.in_targets;
      leads = step.leads;
      rest = path-step g.states (edges_of g) c.args.to c.args.word.now c.loop-k.k c.loop-k.state c.first_flag-number.result c.edges-targets.result.now c.loop-k.path _ _ step c.in_ok-push.ensures.pushed c.loop-k.invariant.rest;
    }

pub returns : goal.returns
returns c =
    path-whole c.args.g.now.states (edges_of c.args.g.now) c.args.to c.args.word.now c.loop-k.k c.loop-k.state c.args.from c.loop-k.path c.loop-k-test.false c.requires.leads c.loop-k.invariant.rest
