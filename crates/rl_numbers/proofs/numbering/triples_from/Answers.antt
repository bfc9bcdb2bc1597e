use Rattle.std.proofs.Common.{◌≡◌, ◌∙◌, ◌*◌, ◌<◌, ℕ, sym, subst, ap, arith}
use Rattle.std.proofs.lemmas.Result.{err_from_is_err_and}
use Rattle.rl_graph.specs.Graph.{Graph, IsWhole}
use Rattle.rl_graph.specs.Paths.{Each}
use Rattle.rl_numbers.specs.Listed.{listing}
use Rattle.rl_numbers.proofs.numbering.triples_from.Goals as goal

pub returns-clause-triples : goal.returns-clause-triples
returns-clause-triples c =
    let here : c.states-states.result ≡ c.args.level.now.states = c.states-states.ensures.number ∙ ap (λ (h : Graph). h.states) c.graph.ensures.same in
    record {
      keys = c.in_ok-keys.keys.keys;
      parts = c.in_ok-parts.parts;
      whole = subst IsWhole c.graph.ensures.same c.states-states.ensures.whole;
      reach = c.in_ok-keys.ensures.reach;
      few = c.in_ok-keys.ensures.few;
      inside = c.in_ok-keys.ensures.inside;
      are_parts = c.in_ok-parts.ensures;
      same = c.in_ok-triples.ensures ∙ ap (λ (n : ℕ). listing c.in_ok-parts.parts n 0 c.in_ok-keys.keys.keys) here;
    }

pub listed-requires-clause-few : goal.listed-requires-clause-few
listed-requires-clause-few c =
    let here : c.states-states.result ≡ c.args.level.now.states = c.states-states.ensures.number ∙ ap (λ (h : Graph). h.states) c.graph.ensures.same in
    omega (arith, here, c.graph.ensures.few_states)

pub listed-requires-clause-inside : goal.listed-requires-clause-inside
listed-requires-clause-inside c =
    let here : c.states-states.result ≡ c.args.level.now.states = c.states-states.ensures.number ∙ ap (λ (h : Graph). h.states) c.graph.ensures.same in
    subst (λ (n : ℕ). Each (λ (x : ℕ). x < n * n * n) c.in_ok-keys.keys.keys) (sym here) c.in_ok-keys.ensures.inside

pub listed-requires-clause-size : goal.listed-requires-clause-size
listed-requires-clause-size c = c.in_ok-parts.ensures.size

pub listed-requires-clause-low : goal.listed-requires-clause-low
listed-requires-clause-low c = λ i lt. omega (arith, c.in_ok-parts.ensures.below i lt, c.in_ok-keys.ensures.few)

pub returns-in_err-keys-clause-too_many : goal.returns-in_err-keys-clause-too_many
returns-in_err-keys-clause-too_many c =
    let p = err_from_is_err_and c.from_residual.result c.from_residual.ensures.1 in
    rw (p.1, p.2) (λ e. c.in_err-keys.ensures.too_many e)
