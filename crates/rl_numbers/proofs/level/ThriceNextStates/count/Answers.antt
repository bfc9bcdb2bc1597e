use Rattle.std.proofs.Common.{◌≡◌, ◌∙◌, ◌*◌, ◌/◌, ◌<◌, ℕ, sym, subst, ap, arith}
use Rattle.std.proofs.lemmas.Nat.{div_below, mod_below}
use Rattle.rl_graph.specs.Graph.{Graph}
use Rattle.rl_numbers.proofs.TripleLaws.{some-states, triple-count, triple-fits}
use Rattle.rl_numbers.proofs.level.ThriceNextStates.count.Goals as goal

pub overflow_mul-result : goal.overflow_mul-result
overflow_mul-result c =
    let g = c.args.self.now.level.now in
    let e : c.from-count.result ≡ g.states = c.from-count.ensures ∙ (c.states.ensures.number ∙ ap (λ (h : Graph). h.states) c.graph-graph.ensures.same) in
    let fits = triple-fits g c.graph-graph.result.now c.args.from c.args.letter c.from-count.result c.edges-row.result.now c.graph-graph.ensures.same e c.edges-row.ensures.targets c.count.result c.count.ensures
    (record { few_states = c.graph-graph.ensures.few_states; few_moves = c.graph-graph.ensures.few_moves }) in
    omega (arith, fits)

pub returns : goal.returns
returns c =
    let g = c.args.self.now.level.now in
    let e : c.from-count.result ≡ g.states = c.from-count.ensures ∙ (c.states.ensures.number ∙ ap (λ (h : Graph). h.states) c.graph-graph.ensures.same) in
    triple-count g c.graph-graph.result.now c.args.from c.args.letter c.from-count.result c.edges-row.result.now c.graph-graph.ensures.same e c.edges-row.ensures.targets c.count.result c.count.ensures

pub nonzero_rem-from : goal.nonzero_rem-from
nonzero_rem-from c =
    let g = c.args.self.now.level.now in
    let e : c.from-count.result ≡ g.states = c.from-count.ensures ∙ (c.states.ensures.number ∙ ap (λ (h : Graph). h.states) c.graph-graph.ensures.same) in
    omega (arith, e, some-states g.states c.args.from c.requires.state_in)

pub nonzero_div-from : goal.nonzero_div-from
nonzero_div-from c =
    let g = c.args.self.now.level.now in
    let e : c.from-count.result ≡ g.states = c.from-count.ensures ∙ (c.states.ensures.number ∙ ap (λ (h : Graph). h.states) c.graph-graph.ensures.same) in
    omega (arith, e, some-states g.states c.args.from c.requires.state_in)

pub overflow_cast-from : goal.overflow_cast-from
overflow_cast-from c =
    let g = c.args.self.now.level.now in
    let e : c.from-count.result ≡ g.states = c.from-count.ensures ∙ (c.states.ensures.number ∙ ap (λ (h : Graph). h.states) c.graph-graph.ensures.same) in
    omega (arith, e, mod_below c.args.from c.from-count.result (omega (arith, e, some-states g.states c.args.from c.requires.state_in)), c.graph-graph.ensures.few_states)

pub edges-row-requires-clause-from_in : goal.edges-row-requires-clause-from_in
edges-row-requires-clause-from_in c =
    let g = c.args.self.now.level.now in
    let e : c.from-count.result ≡ g.states = c.from-count.ensures ∙ (c.states.ensures.number ∙ ap (λ (h : Graph). h.states) c.graph-graph.ensures.same) in
    omega (arith, mod_below c.args.from c.from-count.result (omega (arith, e, some-states g.states c.args.from c.requires.state_in)), c.from-count.ensures, c.states.ensures.number)

pub edges-row-requires-clause-letter_in : goal.edges-row-requires-clause-letter_in
edges-row-requires-clause-letter_in c = subst (λ (h : Graph). c.args.letter < h.letters) (sym c.graph-graph.ensures.same) c.requires.letter_in

pub count-requires-clause-state_in : goal.count-requires-clause-state_in
count-requires-clause-state_in c =
    let g = c.args.self.now.level.now in
    let e : c.from-count.result ≡ g.states = c.from-count.ensures ∙ (c.states.ensures.number ∙ ap (λ (h : Graph). h.states) c.graph-graph.ensures.same) in
    subst (λ (h : Graph). c.args.from / c.from-count.result < h.states * h.states) (sym c.graph-graph.ensures.same)
    (subst (λ (m : ℕ). c.args.from / m < g.states * g.states) (sym e) (div_below c.args.from g.states (g.states * g.states) (some-states g.states c.args.from c.requires.state_in) c.requires.state_in))

pub count-requires-clause-letter_in : goal.count-requires-clause-letter_in
count-requires-clause-letter_in c = subst (λ (h : Graph). c.args.letter < h.letters) (sym c.graph-graph.ensures.same) c.requires.letter_in
