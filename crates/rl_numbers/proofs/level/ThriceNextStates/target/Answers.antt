use Rattle.std.proofs.Common.{◌≡◌, ◌∙◌, ◌*◌, ◌/◌, ◌<◌, ◌≤◌, ℕ, get_or, sym, subst, ap, arith}
use Rattle.std.proofs.lemmas.Nat.{div_below, mod_below}
use Rattle.rl_graph.specs.Graph.{Graph, edges_of, IsWhole}
use Rattle.rl_graph.proofs.GraphLaws.{bounded-whole}
use Rattle.rl_graph.proofs.Sums.{Has-get_or}
use Rattle.rl_numbers.specs.Triples.{triple_moves}
use Rattle.rl_numbers.proofs.TripleLaws.{some-states, small-square, small-cube, row-some, pair-in, last-in, triple-target, bounded-triples}
use Rattle.rl_numbers.proofs.level.ThriceNextStates.target.Goals as goal

pub nonzero_div-number : goal.nonzero_div-number
nonzero_div-number c =
    let g = c.args.self.now.level.now in
    let e : c.from-count.result ≡ g.states = c.from-count.ensures ∙ (c.states.ensures.number ∙ ap (λ (h : Graph). h.states) c.graph-graph.ensures.same) in
    let some = row-some g c.graph-graph.result.now c.args.from c.args.letter c.from-count.result c.edges-row.result.now c.graph-graph.ensures.same e c.edges-row.ensures.targets c.args.number c.requires.number_in in
    omega (arith, some)

pub target-pair-requires-clause-number_in : goal.target-pair-requires-clause-number_in
target-pair-requires-clause-number_in c =
    let g = c.args.self.now.level.now in
    let e : c.from-count.result ≡ g.states = c.from-count.ensures ∙ (c.states.ensures.number ∙ ap (λ (h : Graph). h.states) c.graph-graph.ensures.same) in
    pair-in g c.graph-graph.result.now c.args.from c.args.letter c.from-count.result c.edges-row.result.now c.graph-graph.ensures.same e c.edges-row.ensures.targets c.args.number c.requires.number_in

pub nonzero_rem-number : goal.nonzero_rem-number
nonzero_rem-number c =
    let g = c.args.self.now.level.now in
    let e : c.from-count.result ≡ g.states = c.from-count.ensures ∙ (c.states.ensures.number ∙ ap (λ (h : Graph). h.states) c.graph-graph.ensures.same) in
    let some = row-some g c.graph-graph.result.now c.args.from c.args.letter c.from-count.result c.edges-row.result.now c.graph-graph.ensures.same e c.edges-row.ensures.targets c.args.number c.requires.number_in in
    omega (arith, some)

pub offset_bounds-row-number : goal.offset_bounds-row-number
offset_bounds-row-number c =
    let g = c.args.self.now.level.now in
    let e : c.from-count.result ≡ g.states = c.from-count.ensures ∙ (c.states.ensures.number ∙ ap (λ (h : Graph). h.states) c.graph-graph.ensures.same) in
    let last = last-in g c.graph-graph.result.now c.args.from c.args.letter c.from-count.result c.edges-row.result.now c.graph-graph.ensures.same e c.edges-row.ensures.targets c.args.number c.requires.number_in in
    omega (arith, last)

pub bounds-row-number : goal.bounds-row-number
bounds-row-number c =
    let g = c.args.self.now.level.now in
    let e : c.from-count.result ≡ g.states = c.from-count.ensures ∙ (c.states.ensures.number ∙ ap (λ (h : Graph). h.states) c.graph-graph.ensures.same) in
    last-in g c.graph-graph.result.now c.args.from c.args.letter c.from-count.result c.edges-row.result.now c.graph-graph.ensures.same e c.edges-row.ensures.targets c.args.number c.requires.number_in

pub returns-clause-target : goal.returns-clause-target
returns-clause-target c =
    let g = c.args.self.now.level.now in
    let e : c.from-count.result ≡ g.states = c.from-count.ensures ∙ (c.states.ensures.number ∙ ap (λ (h : Graph). h.states) c.graph-graph.ensures.same) in
    triple-target g c.graph-graph.result.now c.args.from c.args.letter c.from-count.result c.edges-row.result.now c.graph-graph.ensures.same e c.edges-row.ensures.targets c.args.number c.requires.number_in c.target-pair.result c.from.result c.target-pair.ensures.target c.from.ensures

pub returns-clause-inside : goal.returns-clause-inside
returns-clause-inside c =
    let g = c.args.self.now.level.now in
    let row = triple_moves (edges_of g) g.states c.args.from c.args.letter in
    let b = bounded-triples (edges_of g) g.states g.letters (bounded-whole g (subst IsWhole c.graph-graph.ensures.same c.states.ensures.whole)) in
    let m = get_or row c.args.number 0 in
    let lt : m < g.states * g.states * g.states = b.targets c.args.from c.args.letter m (Has-get_or row c.args.number 0 c.requires.number_in) in
    subst (λ (z : ℕ). z < g.states * g.states * g.states) (sym (returns-clause-target c)) lt

pub nonzero_rem-from : goal.nonzero_rem-from
nonzero_rem-from c =
    let g = c.args.self.now.level.now in
    let e : c.from-count.result ≡ g.states = c.from-count.ensures ∙ (c.states.ensures.number ∙ ap (λ (h : Graph). h.states) c.graph-graph.ensures.same) in
    omega (arith, e, some-states g.states c.args.from c.requires.state_in)

pub nonzero_div-from : goal.nonzero_div-from
nonzero_div-from c =
    let g = c.args.self.now.level.now in
    let e : c.from-count.result ≡ g.states = c.from-count.ensures ∙ (c.states.ensures.number ∙ ap (λ (h : Graph). h.states) c.graph-graph.ensures.same) in
    omega (arith, e, some-states g.states c.args.from c.requires.state_in)

pub overflow_cast-from : goal.overflow_cast-from
overflow_cast-from c =
    let g = c.args.self.now.level.now in
    let e : c.from-count.result ≡ g.states = c.from-count.ensures ∙ (c.states.ensures.number ∙ ap (λ (h : Graph). h.states) c.graph-graph.ensures.same) in
    omega (arith, e, mod_below c.args.from c.from-count.result (omega (arith, e, some-states g.states c.args.from c.requires.state_in)), c.graph-graph.ensures.few_states)

pub edges-row-requires-clause-from_in : goal.edges-row-requires-clause-from_in
edges-row-requires-clause-from_in c =
    let g = c.args.self.now.level.now in
    let e : c.from-count.result ≡ g.states = c.from-count.ensures ∙ (c.states.ensures.number ∙ ap (λ (h : Graph). h.states) c.graph-graph.ensures.same) in
    omega (arith, mod_below c.args.from c.from-count.result (omega (arith, e, some-states g.states c.args.from c.requires.state_in)), c.from-count.ensures, c.states.ensures.number)

pub edges-row-requires-clause-letter_in : goal.edges-row-requires-clause-letter_in
edges-row-requires-clause-letter_in c = subst (λ (h : Graph). c.args.letter < h.letters) (sym c.graph-graph.ensures.same) c.requires.letter_in

pub target-pair-requires-clause-state_in : goal.target-pair-requires-clause-state_in
target-pair-requires-clause-state_in c =
    let g = c.args.self.now.level.now in
    let e : c.from-count.result ≡ g.states = c.from-count.ensures ∙ (c.states.ensures.number ∙ ap (λ (h : Graph). h.states) c.graph-graph.ensures.same) in
    subst (λ (h : Graph). c.args.from / c.from-count.result < h.states * h.states) (sym c.graph-graph.ensures.same)
    (subst (λ (m : ℕ). c.args.from / m < g.states * g.states) (sym e) (div_below c.args.from g.states (g.states * g.states) (some-states g.states c.args.from c.requires.state_in) c.requires.state_in))

pub target-pair-requires-clause-letter_in : goal.target-pair-requires-clause-letter_in
target-pair-requires-clause-letter_in c = subst (λ (h : Graph). c.args.letter < h.letters) (sym c.graph-graph.ensures.same) c.requires.letter_in

pub overflow_mul-result : goal.overflow_mul-result
overflow_mul-result c =
    let h = c.graph-graph.result.now in
    let g = c.args.self.now.level.now in
    let e : c.from-count.result ≡ g.states = c.from-count.ensures ∙ (c.states.ensures.number ∙ ap (λ (h : Graph). h.states) c.graph-graph.ensures.same) in
    let few : h.states ≤ 65536 = omega (arith, c.graph-graph.ensures.few_states, e, c.from-count.ensures, c.states.ensures.number) in
    let pair : c.target-pair.result ≤ 4294967296 = omega (arith, c.target-pair.ensures.inside, small-square h.states h.states few few) in
    omega (arith, small-cube c.target-pair.result c.from-count.result pair (omega (arith, few, c.from-count.ensures, c.states.ensures.number)))
